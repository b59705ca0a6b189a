-- How a call that fills one output ends, and what its code promises of it.
-- Assumes nothing.
use Rattle.std.specs.Prelude.{◌≡◌, ℕ, ◌≤◌, List, length, Ok}
use Rattle.std.proofs.Common.{sym, ap, ◌∙◌, arith}
use Rattle.slices.specs.Splice.{splice}
use Rattle.number_writer.specs.Written.{Written, Done, Refused}

-- all was read, with the bytes of the output and the steps; or a refusal
pub data Ended : Type 0 where
  wrote : (read : ℕ) → List ℕ → (steps : ℕ) → Ended
  refused : ℕ → ℕ → Ended

-- an answer is the end that is defined, and its bytes stand at the front of the room, the rest of which is as it was; of a refusal's room nothing is said
abbrev pub Says : Ended → (room room' : List ℕ) → Written → Type 0
Says e room room' (Ok w) = (bs : List ℕ) × (e ≡ wrote w.read bs w.steps) × (room' ≡ splice room 0 bs) × (w.count ≡ length bs) × (w.count ≤ length room)
Says e room room' (Refused number place) = e ≡ refused number place

pub record Fills (e : Ended) (room room' : List ℕ) (a : Written) : Type 0 where
  pub says : Says e room room' a

-- ---- this determines the answer, and the room where the answer is no refusal

-- the answers are equal, and so are the rooms that hold bytes
abbrev pub Same : (x : List ℕ) → Written → (y : List ℕ) → Written → Type 0
Same x (Ok w) y b = (Ok w ≡ b) × (x ≡ y)
Same x (Refused number place) y b = Refused number place ≡ b

module _ (e : Ended) (room : List ℕ) where
  never : {read k n p : ℕ} {bs : List ℕ} → e ≡ wrote read bs k → e ≡ refused n p → ⊥
  never f g = let z : ◌≡◌ {A = ℕ} 0 1 = cc in omega arith

  same : (x : List ℕ) (a : Written) (y : List ℕ) (b : Written) → Says e room x a → Says e room y b → Same x a y b
  same x (Ok w) y (Ok w') h g =
      let f : wrote w.read h.0 w.steps ≡ wrote w'.read g.0 w'.steps = sym h.1 ∙ g.1 in
      let bs : h.0 ≡ g.0 = cc in
      let m : w.count ≡ w'.count = h.3 ∙ (ap length bs ∙ sym g.3) in
      let r : w.read ≡ w'.read = cc in
      let k : w.steps ≡ w'.steps = cc in
      (rw (m, r, k), h.2 ∙ (ap (splice room 0) bs ∙ sym g.2))
  same x (Ok w) y (Refused number place) h g = absurd (never h.1 g)
  same x (Refused number place) y (Ok w) h g = absurd (never g.1 h)
  same x (Refused number place) y (Refused number' place') h g =
      let f : refused number place ≡ refused number' place' = sym h ∙ g in
      let m : number ≡ number' = cc in
      let p : place ≡ place' = cc in
      rw (m, p)

  pub fills_unique : {x y : List ℕ} {a b : Written} → Fills e room x a → Fills e room y b → Same x a y b
  fills_unique {x} {y} {a} {b} h g = same x a y b h.says g.says

-- What is read where written bytes stand.
-- Assumes nothing.
use Rattle.written_scans.specs.Reread.Same.{same_value}
use Rattle.std.specs.Prelude.{◌≡◌, ℕ, ◌+◌, ◌-◌, ◌^◌, ◌≤◌, ◌<◌, Bool, List, [], ◌∷◌, ◌++◌, get_or, drop, leb}
use Rattle.std.proofs.Math.Path.{refl, ap}
use Rattle.std.proofs.Common.{sym, ◌∙◌, append_assoc, arith, le-leb, eqb-true, length-append, length-drop, drop-drop, get_or-drop}
use Rattle.std.proofs.Math.Bool.{true, false, cond}
use Rattle.std.proofs.Math.Logic.{⊎_elim}
use Rattle.std.proofs.lemmas.Bool.{lt-leb, eqb-false}
use Rattle.std.proofs.Math.ListN.{length}
use Rattle.std.proofs.Math.Seq.{take-append_seam, drop-append_seam}
use Rattle.std.proofs.Math.Dec.{eqb}
use Rattle.slices.specs.Choice.{cond_ind, le_or_lt}
use Rattle.slices.specs.Splice.{part}
use Rattle.numbers.specs.Fixed.{fixed, little}
use Rattle.states.specs.Letters.{mapped}
use Rattle.values.specs.Read.{Read, Value, Bad}
use Rattle.values.specs.Value.Laws.{value_narrow, value_integer, value_real}
use Rattle.values.specs.Value.{ordinary, number, unsigned, signed, byte_up_to, real, narrow, value}
use Rattle.leb128.specs.Shortest.{unsigned_bytes, signed_bytes}
use Rattle.leb128.specs.Shortest.Laws.{unsigned_read, signed_read}
use Rattle.number_writer.specs.Little.{little_bytes, fixed_bytes}
use Rattle.number_writer.specs.Little.Laws.{length_little_bytes, length_fixed_bytes, little_back, fixed_back}
use Rattle.sections_writer.specs.Writer.{value_bytes}
use Rattle.written_scans.specs.Reread.Known.{Writes}

-- some bytes stand at a place of a list, and what is there after them
pub record Stands (l : List ℕ) (at : ℕ) (b more : List ℕ) : Type 0 where
  pub stands : drop at l ≡ b ++ more

pub stands_here : (a b more : List ℕ) {l : List ℕ} → l ≡ (a ++ b) ++ more → Stands l (length a) b more
stands_here a b more e = record { stands = rw (e, append_assoc a b more, drop-append_seam a (b ++ more)) }

module _ {l : List ℕ} {at : ℕ} where
  pub stands_first : (a b : List ℕ) {more : List ℕ} → Stands l at (a ++ b) more → Stands l at a (b ++ more)
  stands_first a b {more} h = record { stands = h.stands ∙ append_assoc a b more }

  pub stands_next : (a b : List ℕ) {more : List ℕ} → Stands l at (a ++ b) more → Stands l (at + length a) b more
  stands_next a b {more} h = record { stands = sym (drop-drop (length a) at l) ∙ (ap (drop (length a)) (h.stands ∙ append_assoc a b more) ∙ drop-append_seam a (b ++ more)) }

  pub stands_part : (b : List ℕ) {more : List ℕ} → Stands l at b more → part l at (length b) ≡ b
  unfolding part
  stands_part b {more} h = rw h.stands (take-append_seam b more)

  pub stands_inside : (b : List ℕ) {more : List ℕ} → Stands l at b more → 1 ≤ length b → at + length b ≤ length l
  stands_inside b {more} h n = omega (arith, length-drop at l, ap length h.stands, length-append b more)

  pub stands_byte : (x : ℕ) {more : List ℕ} → Stands l at (x ∷ []) more → get_or l at 0 ≡ x
  stands_byte x {more} h =
      let e : at + 0 ≡ at = omega arith in
      ap (λ (k : ℕ). get_or l k 0) (sym e) ∙ (sym (get_or-drop at l 0 0) ∙ ap (λ (d : List ℕ). get_or d 0 0) h.stands)

-- ---- numbers

module _ {l : List ℕ} {at n : ℕ} {more : List ℕ} (f : n < 2 ^ 64) where
  pub unsigned_is : Stands l at (unsigned_bytes n) more → unsigned l at ≡ Value n (at + length (unsigned_bytes n))
  unfolding unsigned number
  unsigned_is h = rw (unsigned_read l at more n f h.stands)

  pub signed_is : Stands l at (signed_bytes n) more → signed l at ≡ Value n (at + length (signed_bytes n))
  unfolding signed number
  signed_is h = rw (signed_read l at more n f h.stands)

  pub fixed_is : (flag : Bool) → Stands l at (fixed_bytes flag 8 n) more → fixed flag (part l at 8) ≡ n
  fixed_is flag h = ap (fixed flag) (rw (length_fixed_bytes flag 8 n) at (stands_part (fixed_bytes flag 8 n) h)) ∙ fixed_back flag 8 n f

  pub real_is : (flag : Bool) → Stands l at (little_bytes 8 n) more → real (ordinary flag) l at ≡ Value n (at + length (little_bytes 8 n))
  unfolding real fixed
  real_is flag h =
      let k : length (little_bytes 8 n) ≡ 8 = length_little_bytes 8 n in
      let i : at + 8 ≤ length l = rw k at (stands_inside (little_bytes 8 n) h (omega arith)) in
      let p : little (part l at 8) ≡ n = ap little (rw k at (stands_part (little_bytes 8 n) h)) ∙ little_back 8 n f in
      rw (le-leb (at + 8) (length l) i, p, k)

-- ---- a byte, read as it was elsewhere

abbrev SameByte : List ℕ → ℕ → ℕ → (List ℕ → ℕ → Read) → Type 0
SameByte s a v reads = (j : ℕ) → reads s a ≡ Value v j → (l : List ℕ) (at : ℕ) → at + 1 ≤ length l → get_or l at 0 ≡ get_or s a 0 → reads l at ≡ Value v (at + 1)

not_value : {n p v j : ℕ} → Bad n p ≡ Value v j → ⊥
not_value e = let z : ◌≡◌ {A = ℕ} 0 1 = cc in omega arith

module _ (s : List ℕ) (a v : ℕ) where
  byte_same : (most : ℕ) (map : ℕ → ℕ) → SameByte s a v (λ l i. byte_up_to most map l i)
  unfolding byte_up_to
  byte_same most map j e l at h q =
      cond_ind (leb (a + 1) (length s)) _ _ (λ r. r ≡ Value v j → byte_up_to most map l at ≡ Value v (at + 1))
      (λ t. cond_ind (leb (get_or s a 0) most) _ _ (λ r. r ≡ Value v j → byte_up_to most map l at ≡ Value v (at + 1))
      (λ u w. let m : map (get_or s a 0) ≡ v = same_value w in rw (le-leb (at + 1) (length l) h, q, u, m))
      (λ u w. absurd (not_value w)))
      (λ t w. absurd (not_value w)) e

  narrow_same : (kind : ℕ) → SameByte s a v (λ l i. narrow kind l i)
  unfolding narrow
  narrow_same kind j e l at h q = by (leb kind 1) (leb kind 3) e
    where
      by : (x y : Bool)
          → cond x (byte_up_to 8 mapped s a) (cond y (byte_up_to 1 (λ b. b) s a) (byte_up_to 255 (λ b. b) s a)) ≡ Value v j
          → cond x (byte_up_to 8 mapped l at) (cond y (byte_up_to 1 (λ b. b) l at) (byte_up_to 255 (λ b. b) l at)) ≡ Value v (at + 1)
      by true y e = byte_same 8 mapped j e l at h q
      by false true e = byte_same 1 (λ b. b) j e l at h q
      by false false e = byte_same 255 (λ b. b) j e l at h q

-- ---- a value

module _ (flag : Bool) (kind v : ℕ) (s : List ℕ) (j : ℕ) (w : Writes kind s v j) {l : List ℕ} {at : ℕ} {more : List ℕ} where
  pub value_is : Stands l at (value_bytes kind v s j) more → value (ordinary flag) kind l at ≡ Value v (at + length (value_bytes kind v s j))
  unfolding value_bytes
  value_is h =
      ⊎_elim
      (λ (k : kind ≤ 4).
      let g : Stands l at (get_or s (j - 1) 0 ∷ []) more = rw (le-leb kind 4 k) at h in
      let e = narrow_same s (j - 1) v kind j (w.byte k) l at (stands_inside _ g (omega arith)) (stands_byte _ g) in
      rw (le-leb kind 4 k) (sym (value_narrow (ordinary flag) kind l at k (sym e))))
      (λ (k : 4 < kind). wide k (eqb kind 5) refl (rw (lt-leb kind 4 k) at h))
      (le_or_lt kind 4)
    where
      wide : 4 < kind → (b : Bool) → eqb kind 5 ≡ b → Stands l at (cond b (signed_bytes v) (little_bytes 8 v)) more → value (ordinary flag) kind l at ≡ Value v (at + length (cond (leb kind 4) (get_or s (j - 1) 0 ∷ []) (cond (eqb kind 5) (signed_bytes v) (little_bytes 8 v))))
      wide k true e g = rw (lt-leb kind 4 k, e) (sym (value_integer (ordinary flag) kind l at k (eqb-true kind 5 e) (sym (signed_is (w.wide (omega arith)) g))))
      wide k false e g = rw (lt-leb kind 4 k, e) (sym (value_real (ordinary flag) kind l at k (eqb-false kind 5 e) (sym (real_is (w.wide (omega arith)) flag g))))

-- A loop whose definition goes by steps, each of which gives bytes for the output, ends it, or refuses.
-- Assumes nothing.
use Rattle.std.specs.Prelude.{◌≡◌, refl, ℕ, ◌+◌, ◌≤◌, ◌<◌, List, ◌++◌, length, None, Option, Some}
use Rattle.std.proofs.Common.{sym, subst}
use Rattle.number_writer.specs.Ended.{Ended, wrote, refused, Fills}
use Rattle.number_writer.specs.Put.{Puts}
use Rattle.number_writer.specs.Written.{Written, Done, Refused}
use Rattle.filling.specs.Filling.{Filling, filling_fits, filling_turn, filling_done, filling_full, filling_bad}

-- bytes, and the state and the place after them; or the last bytes, how far was read and how many steps there were;
-- or a refusal
pub data Step (X : Type 0) : Type 0 where
  goes : List ℕ → X → ℕ → Step X
  ends : List ℕ → (read steps : ℕ) → Step X
  stops : (number place : ℕ) → Step X

-- ---- what the code did

-- where a turn comes to with its bytes: they were put, or they do not fit
abbrev pub landed : {T : Type 0} → (ℕ → T) → T → Option ℕ → T
landed put full (Some c) = put c
landed put full None = full

-- turns of a type `T` that go on, from a state and a place with so many bytes put, or are over
module _ {X T : Type 0} (more : X → (read count : ℕ) → T) (over : Written → T) where
  abbrev pub DoesBy : (out : List ℕ) (n : ℕ) → Step X → (out' : List ℕ) → T → Type 0
  DoesBy out n (goes bs x j) out' r =
      (f : Option ℕ) × Puts out n bs out' f × (r ≡ landed (more x j) (over (Refused 16 j)) f)
  DoesBy out n (ends bs j k) out' r =
      (f : Option ℕ) × Puts out n bs out' f × (r ≡ landed (λ c. over (Done j c k)) (over (Refused 16 j)) f)
  DoesBy out n (stops k p) out' r = r ≡ over (Refused k p)

-- ---- what the definition says

-- `of` is an end, as the definition says it
module _ {X A : Type 0} (of : Ended → A) (whole : A) (Left : X → ℕ → List ℕ → Type 0) (size : X → ℕ → ℕ)
    (room : ℕ) where
  -- behind these bytes the definition says what a step gives, and then what is left; 16 where its bytes do not fit
  abbrev pub Takes : (held : List ℕ) (m : ℕ) → Step X → Type 0
  Takes held m (goes bs y j) =
      (length held + length bs ≤ room → Left y j (held ++ bs) × (size y j < m))
      × (room < length held + length bs → whole ≡ of (refused 16 j))
  Takes held m (ends bs j k) =
      (length held + length bs ≤ room → whole ≡ of (wrote j (held ++ bs) k))
      × (room < length held + length bs → whole ≡ of (refused 16 j))
  Takes held m (stops k p) = whole ≡ of (refused k p)

-- ---- a turn

module _ {X A T : Type 0} {of : Ended → A} {whole : A} {Left : X → ℕ → List ℕ → Type 0} {size : X → ℕ → ℕ} {m : ℕ}
    {room out out' : List ℕ} {L : List ℕ → Type 0} {n : ℕ} (o : Filling L room n out)
    (more : X → (read count : ℕ) → T) (over : Written → T) (C : T → Type 0)
    (go : (y : X) (j c : ℕ) → Filling (Left y j) room c out' → size y j < m → C (more y j c))
    (end : (e : Ended) (a : Written) → whole ≡ of e → Fills e room out' a → C (over a)) where
  -- it goes on with less to do, or its answer is the definition's
  pub filling_step : (g : Step X) → Takes of whole Left size (length room) o.held m g → (r : T)
      → DoesBy more over out n g out' r → C r
  filling_step (goes bs y j) t r (f, q, e) = subst C (sym e) (by f q)
    where
      by : (f : Option ℕ) → Puts out n bs out' f → C (landed (more y j) (over (Refused 16 j)) f)
      by (Some c) q =
          let l = t.0 (filling_fits o q refl) in
          go y j c (filling_turn o q refl (o.held ++ bs) refl l.0) l.1
      by None q = end _ _ (t.1 (filling_full o q refl)) (filling_bad room out' 16 j)
  filling_step (ends bs j k) t r (f, q, e) = subst C (sym e) (by f q)
    where
      by : (f : Option ℕ) → Puts out n bs out' f → C (landed (λ c. over (Done j c k)) (over (Refused 16 j)) f)
      by (Some c) q = end _ _ (t.0 (filling_fits o q refl)) (filling_done o q refl j k)
      by None q = end _ _ (t.1 (filling_full o q refl)) (filling_bad room out' 16 j)
  filling_step (stops k p) t r e = subst C (sym e) (end _ _ t (filling_bad room out' k p))

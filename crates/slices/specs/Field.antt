-- A field of so many bytes at a place of the input.
-- Assumes nothing.
use Rattle.std.specs.Prelude.{◌≡◌, refl, ℕ, ◌+◌, ◌-◌, ◌≤◌, ◌<◌, cond, List, length, leb, None, Option, Some}
use Rattle.std.proofs.Common.{sym, subst, ◌∙◌, arith, le-leb, leb-true, leb-false}
use Rattle.std.proofs.lemmas.Bool.{lt-leb}
use Rattle.slices.specs.Choice.{cond_ind}

unfoldable pub field_of : ℕ → List ℕ → ℕ → Option ℕ
field_of n s i = cond (leb (i + n) (length s)) (Some (i + n)) None

-- ---- for callers

abbrev pub Inside : ℕ → List ℕ → ℕ → Option ℕ → Type 0
Inside n s i (Some j) = (j ≡ i + n) × (i + n ≤ length s)
Inside n s i None = length s < i + n

pub field_inside : (n : ℕ) (s : List ℕ) (i : ℕ) → Inside n s i (field_of n s i)
unfolding field_of
field_inside n s i = cond_ind (leb (i + n) (length s)) _ _ (Inside n s i) (λ t. (refl, leb-true _ _ t)) (λ t. leb-false _ _ t)

module _ (n : ℕ) (s : List ℕ) (i : ℕ) {f : Option ℕ} (e : f ≡ field_of n s i) where
  pub field_next : {j : ℕ} → f ≡ Some j → (j ≡ i + n) × (i + n ≤ length s)
  field_next d = subst (Inside n s i) (sym e ∙ d) (field_inside n s i)

  pub field_short : f ≡ None → length s < i + n
  field_short d = subst (Inside n s i) (sym e ∙ d) (field_inside n s i)

-- ---- for the code

pub field_none : (n : ℕ) (s : List ℕ) (i : ℕ) → length s < n → None ≡ field_of n s i
unfolding field_of
field_none n s i h = rw (lt-leb (i + n) (length s) (omega arith))

module _ (n : ℕ) (s : List ℕ) (i : ℕ) (h : n ≤ length s) where
  pub field_found : i ≤ length s - n → Some (i + n) ≡ field_of n s i
  unfolding field_of
  field_found l = rw (le-leb (i + n) (length s) (omega arith))

  pub field_past : length s - n < i → None ≡ field_of n s i
  unfolding field_of
  field_past l = rw (lt-leb (i + n) (length s) (omega arith))

pub ruleset field_laws = (field_none, field_found, field_past)

-- "Checks 1 to 6 come first": of a working room nothing is asked here, so 6 is not given.
-- Assumes nothing.
use Rattle.std.proofs.Math.Path.{◌≡◌, refl, sym, ap}
use Rattle.std.proofs.Common.{subst, ◌∙◌, le-leb}
use Rattle.std.specs.Prelude.{ℕ, zero, suc, ◌≤◌, ◌<◌, Bool, true, false, Ok}
use native.Mathlib.Omega.{arith}
use Rattle.slices.specs.Choice.{cond_ind}
use Rattle.tables.specs.Lists.{Lists, vectors, signals}
use Rattle.tables.specs.Checks.{unless, lowest, and_then, within_limit, good_vector, good_signal, names_all, check1, check2, check3, check4, check5, check6, checks}
use Rattle.tables.specs.Checks.Laws.{then_passed}
use Rattle.tables.specs.Good.Laws.{limits}
use Rattle.tables.specs.Check.{Check, Passed, Refused}

unfoldable pub checks_without_room : Lists → (input out : ℕ) → Check
checks_without_room t input out = and_then (check1 input out 0 0 0) (and_then (check2 t) (and_then (check3 t) (and_then (check4 t) (check5 t))))

-- ---- the checks of a reading that is lent no working room, 6 aside

abbrev Numbered : Check → Type 0
Numbered Passed = Unit {0}
Numbered (Refused n p) = (1 ≤ n) × (n < 6)

unless_numbered : (good : Bool) (n : ℕ) → (1 ≤ n) × (n < 6) → Numbered (unless good n)
unfolding unless
unless_numbered true n h = tt
unless_numbered false n h = h

lowest_numbered : (n : ℕ) (good : ℕ → Bool) (k i : ℕ) → (1 ≤ n) × (n < 6) → Numbered (lowest n good k i)
unfolding lowest
lowest_numbered n good zero i h = tt
lowest_numbered n good (suc k) i h = cond_ind (good i) _ _ Numbered (λ e. lowest_numbered n good k (suc i) h) (λ e. h)

then_numbered : (a b : Check) → Numbered a → Numbered b → Numbered (and_then a b)
unfolding and_then
then_numbered Passed b h g = g
then_numbered (Refused n p) b h g = h

then_assoc : (a b c : Check) → and_then a (and_then b c) ≡ and_then (and_then a b) c
unfolding and_then
then_assoc Passed b c = refl
then_assoc (Refused n p) b c = refl

-- the number of a check's refusal
refused_number : Check → ℕ
refused_number Passed = 0
refused_number (Refused n p) = n

-- check 6 gives 6 or passes
unless_six : (good : Bool) (n p : ℕ) → unless good 6 ≡ Refused n p → n ≡ 6
unfolding unless refused_number
unless_six true n p e = absurd (let z : ◌≡◌ {A = ℕ} 0 1 = cc in omega arith)
unless_six false n p e = sym (ap refused_number e)

module _ (t : Lists) (input out : ℕ) where
  numbered : Numbered (checks_without_room t input out)
  unfolding checks_without_room check1 check2 check3 check4 check5
  numbered =
      then_numbered _ _ (unless_numbered _ 1 (omega arith, omega arith)) (then_numbered _ _ (unless_numbered _ 2 (omega arith, omega arith))
      (then_numbered _ _ (lowest_numbered 3 (good_vector t) (vectors t) 1 (omega arith, omega arith))
      (then_numbered _ _ (lowest_numbered 4 (good_signal t) (signals t) 1 (omega arith, omega arith)) (lowest_numbered 5 (names_all t (vectors t)) (signals t) 1 (omega arith, omega arith)))))

  -- they refuse with 1 to 5, and what passes them is within its limits
  pub without_number : (n p : ℕ) → checks_without_room t input out ≡ Refused n p → (1 ≤ n) × (n < 6)
  without_number n p e = subst Numbered e numbered

  pub without_limits : checks_without_room t input out ≡ Passed → (input ≤ 16777215) × (out ≤ 1073741823)
  unfolding checks_without_room
  without_limits e = let l = limits input out 0 0 0 (then_passed _ _ e).0 in (l.of_input, l.of_events)

  all_checks : checks t input out 0 0 0 ≡ and_then (checks_without_room t input out) (check6 t 0 0)
  unfolding checks checks_without_room
  all_checks =
      let a = check1 input out 0 0 0 in
      ap (λ x. and_then a (and_then (check2 t) (and_then (check3 t) x))) (then_assoc (check4 t) (check5 t) (check6 t 0 0))
      ∙ (ap (λ x. and_then a (and_then (check2 t) x)) (then_assoc (check3 t) (and_then (check4 t) (check5 t)) (check6 t 0 0))
      ∙ (ap (and_then a) (then_assoc (check2 t) (and_then (check3 t) (and_then (check4 t) (check5 t))) (check6 t 0 0))
      ∙ then_assoc a (and_then (check2 t) (and_then (check3 t) (and_then (check4 t) (check5 t)))) (check6 t 0 0)))

  six : (n p : ℕ) → check6 t 0 0 ≡ Refused n p → n ≡ 6
  unfolding check6
  six n p d = unless_six _ n p d

  module _ {r : Check} (e : r ≡ checks t input out 0 0 0) where
    by : (w : Check) → w ≡ checks_without_room t input out → Numbered w → (x : Check) → r ≡ x → and_then w (check6 t 0 0) ≡ x → (x ≡ Passed → Passed ≡ w) × ((n p : ℕ) → x ≡ Refused n p → n ≡ 6 → Passed ≡ w) × ((n p : ℕ) → x ≡ Refused n p → (n ≡ 6 → ⊥) → Refused n p ≡ w)
    unfolding and_then refused_number
    by Passed q m x d h = (λ y. refl, λ n p y z. refl, λ n p y z. absurd (z (six n p (h ∙ y))))
    by (Refused k j) q m x d h =
        (λ y. absurd (let z : ◌≡◌ {A = ℕ} 0 1 = cc in omega arith), λ n p y z. absurd (let g : k ≡ n = ap refused_number (h ∙ y) in omega (arith, m.1)), λ n p y z. sym (h ∙ y))

    found : (x : Check) → r ≡ x → (x ≡ Passed → Passed ≡ checks_without_room t input out) × ((n p : ℕ) → x ≡ Refused n p → n ≡ 6 → Passed ≡ checks_without_room t input out) × ((n p : ℕ) → x ≡ Refused n p → (n ≡ 6 → ⊥) → Refused n p ≡ checks_without_room t input out)
    found x d = by (checks_without_room t input out) refl numbered x d (sym all_checks ∙ (sym e ∙ d))

    pub checks_passed : {u : Unit {0}} → r ≡ Ok u → Passed ≡ checks_without_room t input out
    checks_passed {u = tt} d = (found Passed d).0 refl

    module _ {n p : ℕ} (d : r ≡ Refused n p) where
      pub checks_six : n ≡ 6 → Passed ≡ checks_without_room t input out
      checks_six z = (found (Refused n p) d).1 n p refl z

      pub checks_refused : (n ≡ 6 → ⊥) → Refused n p ≡ checks_without_room t input out
      checks_refused z = (found (Refused n p) d).2 n p refl z

-- all lengths within their limits pass alike
pub without_alike : (t : Lists) (input out input' out' : ℕ) → input ≤ 16777215 → out ≤ 1073741823 → input' ≤ 16777215 → out' ≤ 1073741823 → checks_without_room t input out ≡ checks_without_room t input' out'
unfolding checks_without_room check1 within_limit
without_alike t input out input' out' a b c d = rw (le-leb input 16777215 a, le-leb out 1073741823 b, le-leb input' 16777215 c, le-leb out' 1073741823 d)

pub ruleset checked_laws = (checks_passed, checks_six, checks_refused)

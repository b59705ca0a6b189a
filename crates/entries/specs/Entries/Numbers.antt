-- "Checks 1 to 6": the numbers with which the checks refuse.
-- Assumes nothing.
use Rattle.std.specs.Prelude.{ℕ, zero, suc, ◌≤◌, ◌≡◌, Bool}
use Rattle.std.proofs.Common.{subst, arith}
use Rattle.slices.specs.Choice.{cond_ind}
use Rattle.tables.specs.Lists.{Lists}
use Rattle.tables.specs.Checks.{unless, lowest, and_then, check1, check2, check3, check4, check5, check6, checks}
use Rattle.tables.specs.Check.{Check, Passed, Refused}

Within6 : Check → Type 0
Within6 Passed = Unit {0}
Within6 (Refused n p) = (1 ≤ n) × (n ≤ 6)

unless_6 : (good : Bool) (n : ℕ) → 1 ≤ n → n ≤ 6 → Within6 (unless good n)
unfolding unless Within6
unless_6 good n a b = cond_ind good _ _ Within6 (λ h. tt) (λ h. (a, b))

lowest_6 : (n : ℕ) (good : ℕ → Bool) (count i : ℕ) → 1 ≤ n → n ≤ 6 → Within6 (lowest n good count i)
unfolding lowest Within6
lowest_6 n good zero i a b = tt
lowest_6 n good (suc count) i a b = cond_ind (good i) _ _ Within6 (λ h. lowest_6 n good count (suc i) a b) (λ h. (a, b))

then_6 : (c d : Check) → Within6 c → Within6 d → Within6 (and_then c d)
unfolding and_then Within6
then_6 Passed d a b = b
then_6 (Refused n p) d a b = a

checks_6 : (t : Lists) (input events values room list : ℕ) → Within6 (checks t input events values room list)
unfolding checks check1 check2 check3 check4 check5 check6
checks_6 t input events values room list =
    then_6 _ _ (unless_6 _ 1 (omega arith) (omega arith))
    (then_6 _ _ (unless_6 _ 2 (omega arith) (omega arith))
    (then_6 _ _ (lowest_6 3 _ _ 1 (omega arith) (omega arith))
    (then_6 _ _ (lowest_6 4 _ _ 1 (omega arith) (omega arith))
    (then_6 _ _ (lowest_6 5 _ _ 1 (omega arith) (omega arith)) (unless_6 _ 6 (omega arith) (omega arith))))))

pub checks_number : (t : Lists) (input events values room list n p : ℕ) → checks t input events values room list ≡ Refused n p → (1 ≤ n) × (n ≤ 6)
unfolding Within6
checks_number t input events values room list n p e = subst Within6 e (checks_6 t input events values room list)

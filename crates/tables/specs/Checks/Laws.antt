-- What a check that passed says, and the facts by which the code of a check goes on.
-- Assumes nothing.
use Rattle.std.specs.Prelude.{◌≡◌, Bool, true, false, cond, ◌&&◌, List, get_or}
use Rattle.std.proofs.Math.Path.{refl}
use Rattle.std.proofs.Common.{sym, arith, add-one, eq-or-lt_of_le}
use Prim.Native.Nat.{ℕ, zero, suc, ◌+◌, ◌-◌, ◌<◌, ◌≤◌}
use Rattle.std.proofs.lemmas.Bool.{false≢true}
use Rattle.std.proofs.Math.Logic.{⊎_elim}
use Rattle.tables.specs.Lists.{nth}
use Rattle.tables.specs.Checks.{unless, lowest, and_then}
use Rattle.tables.specs.Check.{Check, Passed, Refused}

-- the entry of an id, or of a vector number, is that of the index one less
pub nth_at : (l : List ℕ) (i : ℕ) → nth l (i + 1) ≡ get_or l i 0
unfolding nth
nth_at l i = rw add-one

pub nth_less : (l : List ℕ) (i : ℕ) → 1 ≤ i → nth l i ≡ get_or l (i - 1) 0
nth_less l i h =
    let e : i - 1 + 1 ≡ i = omega arith in
    rw e at (nth_at l (i - 1))

pub both : (a b : Bool) → a && b ≡ true → (a ≡ true) × (b ≡ true)
both true b h = (refl, h)
both false b h = absurd (false≢true h)

passed≢refused : (number place : ℕ) → Passed ≡ Refused number place → ⊥
passed≢refused number place e = let z : ◌≡◌ {A = ℕ} 0 1 = cc in omega arith

pub unless_passed : (good : Bool) (number : ℕ) → unless good number ≡ Passed → good ≡ true
unfolding unless
unless_passed true number e = refl
unless_passed false number e = absurd (passed≢refused number 0 (sym e))

pub then_passed : (first later : Check) → and_then first later ≡ Passed → (first ≡ Passed) × (later ≡ Passed)
unfolding and_then
then_passed Passed later e = (refl, e)
then_passed (Refused number place) later e = absurd (passed≢refused number place (sym e))

-- all of the n numbers from i are good
pub lowest_passed : (number : ℕ) (good : ℕ → Bool) (n i : ℕ) → lowest number good n i ≡ Passed → (j : ℕ) → i ≤ j → j < i + n → good j ≡ true
unfolding lowest
lowest_passed number good zero i e j a b = absurd (omega arith)
lowest_passed number good (suc n) i e j a b = go (good i) refl e (λ e'. lowest_passed number good n (suc i) e' j)
  where
    go : (g : Bool) → good i ≡ g → cond g (lowest number good n (suc i)) (Refused number i) ≡ Passed
        → (lowest number good n (suc i) ≡ Passed → suc i ≤ j → j < suc i + n → good j ≡ true) → good j ≡ true
    go true g e' rest = ⊎_elim (λ (q : i ≡ j). rw (← q) g) (λ (q : i < j). rest e' q (omega arith)) (eq-or-lt_of_le a)
    go false g e' rest = absurd (passed≢refused number i (sym e'))

module _ (number : ℕ) (good : ℕ → Bool) where
  -- where all before j are good and j is not, j is the lowest
  pub lowest_at : (n i j : ℕ) → i ≤ j → j < i + n → ((k : ℕ) → i ≤ k → k < j → good k ≡ true) → good j ≡ false → Refused number j ≡ lowest number good n i
  unfolding lowest
  lowest_at zero i j a b f e = absurd (omega arith)
  lowest_at (suc n) i j a b f e =
      ⊎_elim (λ (q : i ≡ j). rw (q, e)) (λ (q : i < j). rw (f i (omega arith) q) (lowest_at n (suc i) j q (omega arith) (λ k l m. f k (omega arith) m) e)) (eq-or-lt_of_le a)

  pub lowest_all : (n i : ℕ) → ((k : ℕ) → i ≤ k → k < i + n → good k ≡ true) → Passed ≡ lowest number good n i
  unfolding lowest
  lowest_all zero i f = refl
  lowest_all (suc n) i f = rw (f i (omega arith) (omega arith)) (lowest_all n (suc i) (λ k l m. f k (omega arith) (omega arith)))

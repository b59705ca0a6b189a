-- A call with one output whose bytes all fit is not refused with 16.
-- Assumes nothing.
use Rattle.refusals.specs.Laws.{same_number}
use Rattle.std.specs.Prelude.{ℕ, ◌≤◌, ◌≡◌, ◌≢◌, Bool, true, false, length}
use Rattle.std.proofs.Common.{inl, inr, arith}
use Rattle.tables.specs.Checks.{unless}
use Rattle.tables.specs.Check.{Check, Passed, Refused}
use Rattle.answers.specs.Outcome.{LeftKept}
use Rattle.courses.specs.Course.{Course, bytes_of}
use Rattle.courses.proofs.Course.Laws.{over_more}
use Rattle.call_pages.specs.Exact.{Why, Exact}
pub mod Ruled
pub mod GivenBack
pub mod Written
pub mod Rises
pub mod Benched

module _ (checks : Check) (ends : ℕ → Type 0) (faults : ℕ → ℕ → Type 0) (room : ℕ) (c : Course) where
  pub not_full : (x : LeftKept) → Exact checks ends faults room c x → ((p : ℕ) → checks ≡ Refused 16 p → ⊥)
      → ((p : ℕ) → faults 16 p → ⊥)
      → (checks ≡ Passed → length (bytes_of c) ≤ room) → x.answer.number ≢ 16
  not_full x e k f h z = by x.answer.place (rw z at (e.refuses (λ o. omega arith)))
    where
      by : (p : ℕ) → Why checks ends faults room c 16 p → ⊥
      by p (inl q) = k p q
      by p (inr (q, inl (g, l))) = f p g
      by p (inr (q, inr (g, o))) = omega (arith, over_more room c 0 p o, h q)

pub unless_not : (b : Bool) (n : ℕ) → n ≢ 16 → (p : ℕ) → unless b n ≡ Refused 16 p → ⊥
unfolding unless
unless_not true n m p e = let z : ◌≡◌ {A = ℕ} 0 1 = cc in omega arith
unless_not false n m p e = m (same_number e)

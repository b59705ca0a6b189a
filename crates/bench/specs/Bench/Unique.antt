-- The promise is one equation for the answer and the whole output, so two outcomes that meet it are equal.
-- Assumes nothing.
use Rattle.std.specs.Prelude.{ℕ, ◌≡◌, List}
use Rattle.std.proofs.Common.{sym, ◌∙◌}
use Rattle.answers.specs.Outcome.{LeftKept}
use Rattle.bench.specs.Bench.{bench}

-- "Prove that two outcomes satisfying it are equal"
pub bench_unique : (events values : List ℕ) (session strobe close room : ℕ) (a b : LeftKept) → a ≡ bench events values session strobe close room → b ≡ bench events values session strobe close room → a ≡ b
bench_unique events values session strobe close room a b p q = p ∙ sym q

-- A part of a list, as the code takes it.
-- Assumes nothing.
use Rattle.std.specs.Prelude.{◌≡◌, ℕ, ◌+◌, ◌-◌, List, take, drop}
use Rattle.std.proofs.Common.{◌∙◌, arith}
use Rattle.slices.specs.Splice.{part}

pub run_is : (s : List ℕ) (at n : ℕ) {l : List ℕ} → l ≡ take (at + n - at) (drop at s) → l ≡ part s at n
unfolding part
run_is s at n e = let h : at + n - at ≡ n = omega arith in e ∙ rw h

pub ruleset run_laws = (run_is)

-- What is left to do grows less.
use Rattle.std.proofs.Common.{◌≤◌, length, ◌-◌}
use Rattle.reassembly_fragments.proofs.bench_records.fragments.Given as goal

abbrev pub invariant-loop-at : goal.invariant-loop-at
invariant-loop-at g l = l.at ≤ length l.out

abbrev pub decreases-loop-at : goal.decreases-loop-at
decreases-loop-at g l = length l.out - l.at

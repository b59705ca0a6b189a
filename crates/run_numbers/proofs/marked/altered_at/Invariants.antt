-- What is left to do grows less.
use Rattle.std.proofs.Common.{◌≤◌, ◌-◌}
use Rattle.run_numbers.proofs.marked.altered_at.Given as goal

abbrev pub invariant-loop-v : goal.invariant-loop-v
invariant-loop-v l = (l.known ≤ l.v) × (l.v ≤ 255)

abbrev pub decreases-loop-v : goal.decreases-loop-v
decreases-loop-v l = 256 - l.v

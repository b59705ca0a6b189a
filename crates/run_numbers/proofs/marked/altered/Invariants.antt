-- What is left to do grows less.
use Rattle.std.proofs.Common.{◌-◌, ◌≤◌}
use Rattle.run_numbers.proofs.marked.altered.Given as goal

abbrev pub invariant-loop-j : goal.invariant-loop-j
invariant-loop-j g l = l.j ≤ 4

abbrev pub decreases-loop-j : goal.decreases-loop-j
decreases-loop-j g l = 4 - l.j

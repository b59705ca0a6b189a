-- What is left to do grows less.
use Rattle.std.proofs.Common.{length, ◌-◌, ◌≤◌}
use Rattle.run_tables.proofs.lists.size.Given as goal

abbrev pub invariant-loop-j : goal.invariant-loop-j
invariant-loop-j l = l.j ≤ length l.list

abbrev pub decreases-loop-j : goal.decreases-loop-j
decreases-loop-j l = length l.list - l.j

-- What is left to do grows less.
use Rattle.std.proofs.Common.{◌-◌, ◌≤◌}
use Rattle.run_numbers.proofs.lebs.count.Given as goal

abbrev pub invariant-loop-k : goal.invariant-loop-k
invariant-loop-k l = (l.agree ≤ l.k) × (l.k ≤ l.turns)

abbrev pub decreases-loop-k : goal.decreases-loop-k
decreases-loop-k l = l.turns - l.k

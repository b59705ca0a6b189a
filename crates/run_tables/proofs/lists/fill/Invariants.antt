-- What is left to do grows less.
use Rattle.std.proofs.Common.{◌-◌}
use Rattle.run_tables.proofs.lists.fill.Given as goal

abbrev pub decreases-loop-k : goal.decreases-loop-k
decreases-loop-k l = 7 - l.k

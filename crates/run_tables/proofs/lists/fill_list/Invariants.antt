-- What is left to do grows less.
use Rattle.std.proofs.Common.{length, ◌-◌}
use Rattle.run_tables.proofs.lists.fill_list.Given as goal

abbrev pub decreases-loop-j : goal.decreases-loop-j
decreases-loop-j l = length l.list - l.j

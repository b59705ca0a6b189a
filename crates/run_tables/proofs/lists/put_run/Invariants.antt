-- What is left to do grows less.
use Rattle.run_tables.proofs.lists.put_run.Given as goal

abbrev pub decreases-loop-left : goal.decreases-loop-left
decreases-loop-left l = l.left

use Rattle.tables.specs.Checks.Loops.{Lowest}
use Rattle.range_names.proofs.check_names.Given as goal

abbrev pub invariant-loop-v : goal.invariant-loop-v
invariant-loop-v l = Lowest l.tables l.v l.best

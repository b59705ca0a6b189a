use Rattle.tables.specs.Checks.{good_vector}
use Rattle.tables.specs.Checks.Loops.{Passing}
use Rattle.tables.proofs.Tables.check_vectors.Given as goal

abbrev pub invariant-loop-v : goal.invariant-loop-v
invariant-loop-v l = Passing (good_vector l.self) l.v

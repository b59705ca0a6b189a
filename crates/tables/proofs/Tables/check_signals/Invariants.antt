use Rattle.tables.specs.Checks.{good_signal}
use Rattle.tables.specs.Checks.Loops.{Passing}
use Rattle.tables.proofs.Tables.check_signals.Given as goal

abbrev pub invariant-loop-i : goal.invariant-loop-i
invariant-loop-i l = Passing (good_signal l.self) l.i

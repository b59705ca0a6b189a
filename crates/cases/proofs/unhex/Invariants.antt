-- The bytes so far are those of the first pairs.
use Rattle.std.proofs.Common.{length}
use Rattle.cases.specs.Cases.Code.{Pairs}
use Rattle.cases.proofs.unhex.Given as goal

abbrev pub invariant-loop-i : goal.invariant-loop-i
invariant-loop-i l = Pairs l.s (length l.fn.out) l.out l.i

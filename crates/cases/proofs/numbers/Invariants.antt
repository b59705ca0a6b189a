-- The numbers so far are those of the first parts, and what is left holds the others.
use Rattle.std.proofs.Common.{length}
use Rattle.cases.specs.Cases.Code.{Lists}
use Rattle.cases.proofs.numbers.Given as goal

abbrev pub invariant-loop-i : goal.invariant-loop-i
invariant-loop-i l = Lists l.s (length l.fn.out) l.out l.left l.i

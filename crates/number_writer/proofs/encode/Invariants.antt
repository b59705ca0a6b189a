use Rattle.number_writer.specs.Code.{Encoding}
use Rattle.number_writer.proofs.encode.Given as goal

abbrev pub invariant-loop-i : goal.invariant-loop-i
invariant-loop-i l = Encoding l.initial.bytes l.signed l.n l.bytes l.left l.i

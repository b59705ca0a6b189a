use Rattle.slices.specs.Splice.Writes.{Copying}
use Rattle.slices.proofs.copy_part.Given as goal

abbrev pub invariant-loop-i : goal.invariant-loop-i
invariant-loop-i l = Copying l.src l.from l.count l.initial.dst l.at l.i l.dst

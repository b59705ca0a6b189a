-- The records below `i` are flat.
use Rattle.std.proofs.Common.{◌-◌}
use Rattle.doorquill.proofs.Unpacking.{Unpacking}
use Rattle.doorquill.proofs.lent.unpack.Given as goal

abbrev pub invariant-loop-i : goal.invariant-loop-i
invariant-loop-i l = Unpacking l.vs l.n l.initial.flat l.i l.flat

abbrev pub decreases-loop-i : goal.decreases-loop-i
decreases-loop-i l = l.n - l.i

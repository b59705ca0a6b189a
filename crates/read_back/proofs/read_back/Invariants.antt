use Prim.Native.Nat.{◌-◌}
use lib.ListN.{length}
use Rattle.read_back.specs.ReadBack.Loop.{On, left_over}
use Rattle.std.proofs.Common.{◌-◌, length}
use Rattle.read_back.proofs.read_back.Given as goal

abbrev pub invariant-loop-q : goal.invariant-loop-q
invariant-loop-q l = On l.kinds l.how l.s l.initial.out l.p l.out

abbrev pub decreases-loop-q : goal.decreases-loop-q
decreases-loop-q l = left_over l.s l.p

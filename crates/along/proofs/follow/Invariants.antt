-- Written by tools/proof-answers from proofs.map.
use Rattle.std.proofs.Common.{◌-◌, length}
use Rattle.along.specs.Follows.Code.{Following}
use Rattle.along.proofs.follow.Given as goal

abbrev pub invariant-loop-i : goal.invariant-loop-i
invariant-loop-i l = Following l.kind l.info l.s l.bit l.at l.initial.room l.room l.left l.i

abbrev pub decreases-loop-i : goal.decreases-loop-i
decreases-loop-i l = length l.s - l.i

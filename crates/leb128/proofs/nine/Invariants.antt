-- Written by tools/proof-answers from proofs.map.
use Rattle.std.proofs.Common.{◌-◌}
use Rattle.leb128.specs.Leb128.Code.{Passed}
use Rattle.leb128.proofs.nine.Given as goal

abbrev pub invariant-loop-k : goal.invariant-loop-k
invariant-loop-k l = Passed l.s l.at l.sum l.power l.i l.k

abbrev pub decreases-loop-k : goal.decreases-loop-k
decreases-loop-k l = 9 - l.k

-- Written by tools/proof-answers from proofs.map.
use Rattle.std.proofs.Common.{◌-◌}
use Rattle.doorquill.specs.Lent.Laws.{Lowering}
use Rattle.doorquill.proofs.lent.lower_states.Given as goal

abbrev pub invariant-loop-i : goal.invariant-loop-i
invariant-loop-i l = Lowering l.flat l.from l.n l.initial.states l.i l.states

abbrev pub decreases-loop-i : goal.decreases-loop-i
decreases-loop-i l = l.n - l.i

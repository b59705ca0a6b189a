-- Written by tools/proof-answers from proofs.map.
use Rattle.std.proofs.Common.{rules}
use Rattle.doorquill.specs.Lent.Laws.{lower_laws}
use Rattle.doorquill.proofs.lent.lower_states.Goals as goal

pub loop-i-init : goal.loop-i-init
loop-i-init c = search (lower_laws, rules)

pub loop-i-preserved : goal.loop-i-preserved
loop-i-preserved c = search (lower_laws, rules)

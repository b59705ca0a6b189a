-- Written by tools/proof-answers from proofs.map.
use Rattle.std.proofs.Common.{rules}
use Rattle.encoder.specs.Rule.Code.{apply_laws}
use Rattle.encoder.proofs.apply.Goals as goal

pub loop-q-init : goal.loop-q-init
loop-q-init c = search (apply_laws, rules)

pub loop-q-smaller : goal.loop-q-smaller
loop-q-smaller c = search (apply_laws, rules)

pub loop-q-preserved : goal.loop-q-preserved
loop-q-preserved c = search (apply_laws, rules)

pub returns-in-Break : goal.returns-in-Break
returns-in-Break c = search (apply_laws, rules)

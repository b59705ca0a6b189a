-- Written by tools/proof-answers from proofs.map.
use Rattle.std.proofs.Common.{rules}
use Rattle.encoder.specs.Rule.Code.{keeps_laws}
use Rattle.encoder.proofs.keeps.Goals as goal

pub returns-then-clock : goal.returns-then-clock
returns-then-clock c = search (keeps_laws, rules)

pub returns-else-clock : goal.returns-else-clock
returns-else-clock c = search (keeps_laws, rules)

pub returns-in-Value : goal.returns-in-Value
returns-in-Value c = search (keeps_laws, rules)

pub returns-in-Real : goal.returns-in-Real
returns-in-Real c = search (keeps_laws, rules)

-- Written by tools/proof-answers from proofs.map.
use Rattle.std.proofs.Common.{rules}
use Rattle.encoder.specs.Rule.Code.{ticks_laws}
use Rattle.encoder.proofs.ticks.Goals as goal

pub returns-in-Value : goal.returns-in-Value
returns-in-Value c = search (ticks_laws, rules)

pub returns-in-Real : goal.returns-in-Real
returns-in-Real c = search (ticks_laws, rules)

-- Written by tools/proof-answers from proofs.map.
use Rattle.std.proofs.Common.{rules}
use Rattle.encoder.specs.Rule.Code.{times_laws}
use Rattle.encoder.proofs.times.Goals as goal

pub returns-in-Time : goal.returns-in-Time
returns-in-Time c = search (times_laws, rules)

pub returns-in-Value : goal.returns-in-Value
returns-in-Value c = search (times_laws, rules)

pub returns-in-Real : goal.returns-in-Real
returns-in-Real c = search (times_laws, rules)

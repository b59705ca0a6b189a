-- Written by tools/proof-answers from proofs.map.
use Rattle.std.proofs.Common.{rules}
use Rattle.step_ends.specs.Steps.Code.{event_laws}
use Rattle.step_ends.proofs.see_event.Goals as goal

pub see_value-requires : goal.see_value-requires
see_value-requires c = search (event_laws, rules)

pub returns-in-Time : goal.returns-in-Time
returns-in-Time c = search (event_laws, rules)

pub returns-in-Value : goal.returns-in-Value
returns-in-Value c = search (event_laws, rules)

pub returns-in-Real : goal.returns-in-Real
returns-in-Real c = search (event_laws, rules)

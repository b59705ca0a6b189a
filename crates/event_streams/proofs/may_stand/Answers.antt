-- Written by tools/proof-answers from proofs.map.
use Rattle.std.proofs.Common.{rules}
use Rattle.event_streams.proofs.Stream.Code.{test_laws}
use Rattle.event_streams.proofs.may_stand.Goals as goal

pub returns-in-Time : goal.returns-in-Time
returns-in-Time c = search (test_laws, rules)

pub returns-in-Value : goal.returns-in-Value
returns-in-Value c = search (test_laws, rules)

pub returns-in-Real : goal.returns-in-Real
returns-in-Real c = search (test_laws, rules)

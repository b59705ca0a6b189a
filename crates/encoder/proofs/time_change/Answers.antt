-- Written by tools/proof-answers from proofs.map.
use Rattle.std.proofs.Common.{rules}
use Rattle.encoder.specs.Rule.Code.{clock_laws}
use Rattle.encoder.proofs.time_change.Goals as goal

pub returns-then-time-clock : goal.returns-then-time-clock
returns-then-time-clock c = search (clock_laws, rules)

pub returns-then-time-clock-2 : goal.returns-then-time-clock-2
returns-then-time-clock-2 c = search (clock_laws, rules)

pub returns-else-time-clock-2 : goal.returns-else-time-clock-2
returns-else-time-clock-2 c = search (clock_laws, rules)

pub returns-else-clock : goal.returns-else-clock
returns-else-clock c = search (clock_laws, rules)

-- Written by tools/proof-answers from proofs.map.
use Rattle.std.proofs.Common.{rules}
use Rattle.event_streams.proofs.Stream.Code.{kind_laws}
use Rattle.event_streams.proofs.event_length.Goals as goal

pub returns-in-1 : goal.returns-in-1
returns-in-1 c = search (kind_laws, rules)

pub returns-in-2-to-4 : goal.returns-in-2-to-4
returns-in-2-to-4 c = search (kind_laws, rules)

pub returns-in_default : goal.returns-in_default
returns-in_default c = search (kind_laws, rules)

pub returns-in_default-2 : goal.returns-in_default-2
returns-in_default-2 c = search (kind_laws, rules)

-- Written by tools/proof-answers from proofs.map.
use Rattle.std.proofs.Common.{rules}
use Rattle.event_streams.proofs.Stream.Code.{next_laws}
use Rattle.event_streams.proofs.known_event.Goals as goal

pub returns-then-s-at : goal.returns-then-s-at
returns-then-s-at c = search (next_laws, rules)

pub returns : goal.returns
returns c = search (next_laws, rules)

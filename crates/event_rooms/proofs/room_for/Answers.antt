-- Written by tools/proof-answers from proofs.map.
use Rattle.std.proofs.Common.{rules}
use Rattle.event_rooms.specs.Out.Code.{room_laws}
use Rattle.event_rooms.proofs.room_for.Goals as goal

pub returns-then-events_len-counts : goal.returns-then-events_len-counts
returns-then-events_len-counts c = search (room_laws, rules)

pub returns : goal.returns
returns c = search (room_laws, rules)

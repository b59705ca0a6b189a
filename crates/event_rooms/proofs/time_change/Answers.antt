-- Written by tools/proof-answers from proofs.map.
use Rattle.std.proofs.Common.{rules}
use Rattle.event_rooms.specs.Out.Code.{time_laws}
use Rattle.event_rooms.proofs.time_change.Goals as goal

pub returns-then-not-room_for : goal.returns-then-not-room_for
returns-then-not-room_for c = search (time_laws, rules)

pub put_time-requires : goal.put_time-requires
put_time-requires c = search (time_laws, rules)

pub returns : goal.returns
returns c = search (time_laws, rules)

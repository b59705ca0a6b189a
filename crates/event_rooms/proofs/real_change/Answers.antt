-- Written by tools/proof-answers from proofs.map.
use Rattle.std.proofs.Common.{rules}
use Rattle.event_rooms.specs.Out.Code.{real_laws}
use Rattle.event_rooms.proofs.real_change.Goals as goal

pub returns-then-not-room_for : goal.returns-then-not-room_for
returns-then-not-room_for c = search (real_laws, rules)

pub put_real-requires : goal.put_real-requires
put_real-requires c = search (real_laws, rules)

pub returns : goal.returns
returns c = search (real_laws, rules)

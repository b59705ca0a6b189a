-- Written by tools/proof-answers from proofs.map.
use Rattle.std.proofs.Common.{rules}
use Rattle.event_rooms.specs.Out.Code.{raw_laws}
use Rattle.event_rooms.proofs.raw_value_change.Goals as goal

pub returns-then-not-room_for : goal.returns-then-not-room_for
returns-then-not-room_for c = search (raw_laws, rules)

pub write_at-requires : goal.write_at-requires
write_at-requires c = search (raw_laws, rules)

pub append_value-requires : goal.append_value-requires
append_value-requires c = search (raw_laws, rules)

pub returns : goal.returns
returns c = search (raw_laws, rules)

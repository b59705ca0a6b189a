-- Written by tools/proof-answers from proofs.map.
use Rattle.std.proofs.Common.{rules}
use Rattle.plain_writes.specs.Plain.Code.{plain_laws}
use Rattle.plain_writes.proofs.plain_change.Goals as goal

pub returns-then-not-room_for : goal.returns-then-not-room_for
returns-then-not-room_for c = search (plain_laws, rules)

pub put_plain-requires : goal.put_plain-requires
put_plain-requires c = search (plain_laws, rules)

pub append_value-requires : goal.append_value-requires
append_value-requires c = search (plain_laws, rules)

pub returns : goal.returns
returns c = search (plain_laws, rules)

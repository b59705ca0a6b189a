-- Written by tools/proof-answers from proofs.map.
use Rattle.std.proofs.Common.{rules}
use Rattle.event_streams.proofs.Stream.Code.{record_laws}
use Rattle.event_streams.proofs.record_at.Goals as goal

pub get_u64-requires : goal.get_u64-requires
get_u64-requires c = search (record_laws, rules)

pub get_u32-requires : goal.get_u32-requires
get_u32-requires c = search (record_laws, rules)

pub get_u64-requires-in-4 : goal.get_u64-requires-in-4
get_u64-requires-in-4 c = search (record_laws, rules)

pub value_at-requires : goal.value_at-requires
value_at-requires c = search (record_laws, rules)

pub returns-in-1 : goal.returns-in-1
returns-in-1 c = search (record_laws, rules)

pub returns-in-4 : goal.returns-in-4
returns-in-4 c = search (record_laws, rules)

pub returns-in_default : goal.returns-in_default
returns-in_default c = search (record_laws, rules)

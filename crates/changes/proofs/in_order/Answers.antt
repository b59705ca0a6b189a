-- Written by tools/proof-answers from proofs.map.
use Rattle.std.proofs.Common.{rules}
use Rattle.changes.specs.Changes.Record.{order_laws}
use Rattle.changes.proofs.in_order.Goals as goal

pub returns-then-inside : goal.returns-then-inside
returns-then-inside c = search (order_laws, rules)

pub get_u64-requires : goal.get_u64-requires
get_u64-requires c = search (order_laws, rules)

pub returns-then-kind-eq1 : goal.returns-then-kind-eq1
returns-then-kind-eq1 c = search (order_laws, rules)

pub returns-then-kind-eq4 : goal.returns-then-kind-eq4
returns-then-kind-eq4 c = search (order_laws, rules)

pub id_at-requires : goal.id_at-requires
id_at-requires c = search (order_laws, rules)

pub write_record-requires : goal.write_record-requires
write_record-requires c = search (order_laws, rules)

pub returns-then-inside-2 : goal.returns-then-inside-2
returns-then-inside-2 c = search (order_laws, rules)

pub returns : goal.returns
returns c = search (order_laws, rules)

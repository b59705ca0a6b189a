-- Written by tools/proof-answers from proofs.map.
use Rattle.std.proofs.Common.{rules}
use Rattle.sections.specs.Item.Code.{value_laws}
use Rattle.section_items.proofs.value_item.Goals as goal

pub returns-then-found-eq0 : goal.returns-then-found-eq0
returns-then-found-eq0 c = search (value_laws, rules)

pub write_item-requires : goal.write_item-requires
write_item-requires c = search (value_laws, rules)

pub returns-else-found-eq0 : goal.returns-else-found-eq0
returns-else-found-eq0 c = search (value_laws, rules)

pub returns-in-Err : goal.returns-in-Err
returns-in-Err c = search (value_laws, rules)

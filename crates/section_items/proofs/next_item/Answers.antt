-- Written by tools/proof-answers from proofs.map.
use Rattle.std.proofs.Common.{rules}
use Rattle.sections.specs.Item.Code.{item_laws}
use Rattle.section_items.proofs.next_item.Goals as goal

pub returns-then-in_values : goal.returns-then-in_values
returns-then-in_values c = search (item_laws, rules)

pub returns : goal.returns
returns c = search (item_laws, rules)

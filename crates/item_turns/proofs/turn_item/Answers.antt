-- Written by tools/proof-answers from proofs.map.
use Rattle.std.proofs.Common.{rules}
use Rattle.item_turns.specs.Turn.Laws.{item_laws}
use Rattle.item_turns.proofs.turn_item.Goals as goal

pub plain_item-requires : goal.plain_item-requires
plain_item-requires c = search (item_laws, rules)

pub returns : goal.returns
returns c = search (item_laws, rules)

-- Written by tools/proof-answers from proofs.map.
use Rattle.std.proofs.Common.{rules}
use Rattle.read_back.proofs.Arms.{item_laws}
use Rattle.read_back.proofs.one_item.Goals as goal

pub take_item-requires : goal.take_item-requires
take_item-requires c = search (item_laws, rules)

pub returns-in-Over : goal.returns-in-Over
returns-in-Over c = search (item_laws, rules)

-- `item_acts::act_item` meets its contract: each need follows from `act_laws`. Assumes nothing.
use Rattle.item_acts.specs.Acts.Code.{act_laws, acts_turned}
use Rattle.std.proofs.Common.{rules}
use Rattle.item_acts.proofs.act_item.Goals as goal

pub stage_of-stage-requires : goal.stage_of-stage-requires
stage_of-stage-requires c = search (act_laws, rules)

pub turn_item-w-requires : goal.turn_item-w-requires
turn_item-w-requires c = search (act_laws, rules)

pub moved-requires : goal.moved-requires
moved-requires c = search (act_laws, rules)

pub returns-in-Over : goal.returns-in-Over
returns-in-Over c = search (act_laws, rules)

pub returns-in-Bad : goal.returns-in-Bad
returns-in-Bad c = search (act_laws, rules)

pub returns-in-More : goal.returns-in-More
returns-in-More c = acts_turned c.requires c.stage_of-stage.ensures c.in-More.is c.turn_item-w.ensures c.moved.ensures

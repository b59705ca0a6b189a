-- `value_readings::one_value` meets its contract: each need follows from `one_laws`. Assumes nothing.
use Rattle.value_readings.specs.Values.Code.{one_laws}
use Rattle.std.proofs.Common.{rules}
use Rattle.value_readings.proofs.one_value.Goals as goal

pub bounds-b-0 : goal.bounds-b-0
bounds-b-0 c = search (one_laws, rules)

pub value_item-item-requires : goal.value_item-item-requires
value_item-item-requires c = search (one_laws, rules)

pub act_item-requires : goal.act_item-requires
act_item-requires c = search (one_laws, rules)

pub returns : goal.returns
returns c = search (one_laws, rules)

-- `change_readings::one_record` meets its contract: each need follows from `record_laws`. Assumes nothing.
use mathlib.Core.Path.{refl}
use Rattle.change_readings.specs.Records.Laws.{ask_act, records_acted, records_opened, records_over}
use Rattle.change_readings.proofs.Arms.{other_mid, record_laws}
use Rattle.std.proofs.Common.{rules}
use Rattle.change_readings.proofs.one_record.Goals as goal

pub bounds-b-0 : goal.bounds-b-0
bounds-b-0 c = search (record_laws, rules)

pub record_item-item-requires : goal.record_item-item-requires
record_item-item-requires c = search (record_laws, rules)

pub time_change-requires : goal.time_change-requires
time_change-requires c = search (record_laws, rules)

pub opened-requires : goal.opened-requires
opened-requires c = search (record_laws, rules)

pub acted-requires : goal.acted-requires
acted-requires c = search (record_laws, rules)

pub act_item-requires : goal.act_item-requires
act_item-requires c =
    ask_act c.requires c.record_item-item.ensures
    (other_mid _ _ _ _ c.record_item-item.ensures c.in_default.not-Time c.in_default.not-Over)

pub returns-in-Time : goal.returns-in-Time
returns-in-Time c =
    records_opened c.requires c.record_item-item.ensures c.in-Time.is c.time_change.ensures c.opened.ensures

pub returns-in-Over : goal.returns-in-Over
returns-in-Over c = records_over c.requires c.record_item-item.ensures c.in-Over.is

pub returns-in_default : goal.returns-in_default
returns-in_default c =
    records_acted c.requires c.record_item-item.ensures
    (other_mid _ _ _ _ c.record_item-item.ensures c.in_default.not-Time c.in_default.not-Over) c.act_item.ensures refl refl c.acted.ensures

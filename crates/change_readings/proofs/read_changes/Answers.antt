-- `change_readings::read_changes` meets its contract: each need follows from `records_laws`. Assumes nothing.
use Rattle.change_readings.specs.Records.Code.{records_laws, OnRecords}
use Rattle.change_readings.specs.Records.{to_record}
use Rattle.gather.specs.Memory.{mem_of}
use Rattle.item_turns.specs.Lent.{tables}
use Rattle.std.proofs.Common.{rules}
use Rattle.change_readings.proofs.read_changes.Goals as goal

pub loop-inside-init : goal.loop-inside-init
loop-inside-init c = search (records_laws, rules)

pub one_record-w-requires : goal.one_record-w-requires
one_record-w-requires c = search (records_laws, rules)

pub loop-inside-smaller : goal.loop-inside-smaller
loop-inside-smaller c = search (records_laws, rules)

pub loop-inside-preserved : goal.loop-inside-preserved
loop-inside-preserved c = search (records_laws, rules)

pub returns-in-Over : goal.returns-in-Over
returns-in-Over c = search (records_laws, rules)

pub returns-in-Out : goal.returns-in-Out
returns-in-Out c = search (records_laws, rules)

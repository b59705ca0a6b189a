-- `doorquill_back::doorquill_read_back` meets its contract: each need follows from `entry_laws`, `filled_laws`. Assumes nothing.
use Rattle.answers.specs.Filled.{filled_laws}
use Rattle.entries.specs.Written.Laws.{entry_laws}
use Rattle.std.proofs.Common.{rules}
use Rattle.doorquill_back.proofs.doorquill_read_back.Goals as goal

pub checks_without_room-requires : goal.checks_without_room-requires
checks_without_room-requires c = search (entry_laws, filled_laws, rules)

pub read_back-w-requires : goal.read_back-w-requires
read_back-w-requires c = search (entry_laws, filled_laws, rules)

pub end_filled-requires : goal.end_filled-requires
end_filled-requires c = search (entry_laws, filled_laws, rules)

pub refuse_kept-requires : goal.refuse_kept-requires
refuse_kept-requires c = search (entry_laws, filled_laws, rules)

pub returns-in-Ok : goal.returns-in-Ok
returns-in-Ok c = search (entry_laws, filled_laws, rules)

pub returns-in-Err : goal.returns-in-Err
returns-in-Err c = search (entry_laws, filled_laws, rules)

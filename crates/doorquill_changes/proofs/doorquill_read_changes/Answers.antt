-- `doorquill_changes::doorquill_read_changes` meets its contract: each need follows from `entry_laws`. Assumes nothing.
use Rattle.entries.specs.Begin.{entry_laws, ask_passed}
use Rattle.std.proofs.Common.{rules}
use Rattle.doorquill_changes.proofs.doorquill_read_changes.Goals as goal

pub checks-requires : goal.checks-requires
checks-requires c = search (entry_laws, rules)

pub refuse-requires : goal.refuse-requires
refuse-requires c = search (entry_laws, rules)

pub returns-in-Ok : goal.returns-in-Ok
returns-in-Ok c = search (entry_laws, rules)

pub returns-in-Err : goal.returns-in-Err
returns-in-Err c = search (entry_laws, rules)

pub changes_passed-requires : goal.changes_passed-requires
changes_passed-requires c = ask_passed _ _ _ _ _ _ c.checks.ensures c.in-Ok.is

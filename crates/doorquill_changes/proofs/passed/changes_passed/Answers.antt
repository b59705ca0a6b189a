-- `doorquill_changes::passed::changes_passed` meets its contract: each need follows from `passed_laws`. Assumes nothing.
use Rattle.entries.specs.Begin.{passed_laws, ask_total}
use Rattle.std.proofs.Common.{rules}
use Rattle.doorquill_changes.proofs.passed.changes_passed.Goals as goal

pub changes_part-part-requires : goal.changes_part-part-requires
changes_part-part-requires c = search (passed_laws, rules)

pub finish-requires : goal.finish-requires
finish-requires c = search (passed_laws, rules)

pub returns : goal.returns
returns c = search (passed_laws, rules)

pub total_bytes-need-requires : goal.total_bytes-need-requires
total_bytes-need-requires c = ask_total _ _ _ _ _ _ c.requires

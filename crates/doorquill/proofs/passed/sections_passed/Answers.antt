-- `doorquill::passed::sections_passed` meets its contract: each need follows from `passed_laws`. Assumes nothing.
use Rattle.entries.specs.Begin.{passed_laws, ask_total}
use Rattle.std.proofs.Common.{rules}
use Rattle.doorquill.proofs.passed.sections_passed.Goals as goal

pub sections_part-part-requires : goal.sections_part-part-requires
sections_part-part-requires c = search (passed_laws, rules)

pub finish-requires : goal.finish-requires
finish-requires c = search (passed_laws, rules)

pub returns : goal.returns
returns c = search (passed_laws, rules)

pub total_bytes-need-requires : goal.total_bytes-need-requires
total_bytes-need-requires c = ask_total _ _ _ _ _ _ c.requires

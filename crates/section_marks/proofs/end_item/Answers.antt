-- Written by tools/proof-answers from proofs.map.
use Rattle.std.proofs.Common.{rules}
use Rattle.section_heads.specs.Heads.Code.{end_laws}
use Rattle.section_marks.proofs.end_item.Goals as goal

pub is_mark-requires : goal.is_mark-requires
is_mark-requires c = search (end_laws, rules)

pub returns-then-is_mark : goal.returns-then-is_mark
returns-then-is_mark c = search (end_laws, rules)

pub returns-else-is_mark : goal.returns-else-is_mark
returns-else-is_mark c = search (end_laws, rules)

pub returns-in-None : goal.returns-in-None
returns-in-None c = search (end_laws, rules)

-- Written by tools/proof-answers from proofs.map.
use Rattle.std.proofs.Common.{rules}
use Rattle.numbers.specs.Marks.Code.{section_laws}
use Rattle.numbers.proofs.marks.section_at.Goals as goal

pub returns-then-is_mark : goal.returns-then-is_mark
returns-then-is_mark c = search (section_laws, rules)

pub returns-then-is_mark-2 : goal.returns-then-is_mark-2
returns-then-is_mark-2 c = search (section_laws, rules)

pub returns-then-is_mark-3 : goal.returns-then-is_mark-3
returns-then-is_mark-3 c = search (section_laws, rules)

pub returns-then-is_mark-4 : goal.returns-then-is_mark-4
returns-then-is_mark-4 c = search (section_laws, rules)

pub returns : goal.returns
returns c = search (section_laws, rules)

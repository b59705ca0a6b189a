-- Written by tools/proof-answers from proofs.map.
use Rattle.std.proofs.Common.{rules}
use Rattle.section_heads.specs.Heads.Code.{section_laws}
use Rattle.section_marks.proofs.section_item.Goals as goal

pub section_at-requires : goal.section_at-requires
section_at-requires c = search (section_laws, rules)

pub returns-in-Some : goal.returns-in-Some
returns-in-Some c = search (section_laws, rules)

pub returns-in-None : goal.returns-in-None
returns-in-None c = search (section_laws, rules)

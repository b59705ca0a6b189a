-- Written by tools/proof-answers from proofs.map.
use Rattle.std.proofs.Common.{rules}
use Rattle.section_heads.specs.Heads.Code.{entry_laws}
use Rattle.section_marks.proofs.entry_item.Goals as goal

pub returns-then-left-eq0 : goal.returns-then-left-eq0
returns-then-left-eq0 c = search (entry_laws, rules)

pub read_u32-requires : goal.read_u32-requires
read_u32-requires c = search (entry_laws, rules)

pub returns-in-Some-read_u32 : goal.returns-in-Some-read_u32
returns-in-Some-read_u32 c = search (entry_laws, rules)

pub returns-in-None-read_u32 : goal.returns-in-None-read_u32
returns-in-None-read_u32 c = search (entry_laws, rules)

pub returns-in-None-field_at : goal.returns-in-None-field_at
returns-in-None-field_at c = search (entry_laws, rules)

pub returns-in-None : goal.returns-in-None
returns-in-None c = search (entry_laws, rules)

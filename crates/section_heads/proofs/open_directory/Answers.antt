-- Written by tools/proof-answers from proofs.map.
use Rattle.std.proofs.Common.{rules}
use Rattle.section_heads.specs.Heads.Code.{directory_laws}
use Rattle.section_heads.proofs.open_directory.Goals as goal

pub overflow_add-at : goal.overflow_add-at
overflow_add-at c = search (directory_laws, rules)

pub read_u32-requires : goal.read_u32-requires
read_u32-requires c = search (directory_laws, rules)

pub overflow_add-at-in-None-read_u32 : goal.overflow_add-at-in-None-read_u32
overflow_add-at-in-None-read_u32 c = search (directory_laws, rules)

pub returns-in-Some-read_u32 : goal.returns-in-Some-read_u32
returns-in-Some-read_u32 c = search (directory_laws, rules)

pub returns-in-None-read_u32 : goal.returns-in-None-read_u32
returns-in-None-read_u32 c = search (directory_laws, rules)

pub returns-in-None : goal.returns-in-None
returns-in-None c = search (directory_laws, rules)

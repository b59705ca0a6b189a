-- Written by tools/proof-answers from proofs.map.
use Rattle.std.proofs.Common.{rules}
use Rattle.section_heads.specs.Heads.Code.{opens_laws}
use Rattle.section_marks.proofs.opened.Goals as goal

pub returns-in-Snapshot : goal.returns-in-Snapshot
returns-in-Snapshot c = search (opens_laws, rules)

pub returns-in-Cycle : goal.returns-in-Cycle
returns-in-Cycle c = search (opens_laws, rules)

pub returns-in-Directory : goal.returns-in-Directory
returns-in-Directory c = search (opens_laws, rules)

pub returns-in-Tailer : goal.returns-in-Tailer
returns-in-Tailer c = search (opens_laws, rules)

pub returns-in-Unknown : goal.returns-in-Unknown
returns-in-Unknown c = search (opens_laws, rules)

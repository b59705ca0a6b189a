-- Written by tools/proof-answers from proofs.map.
use Rattle.std.proofs.Common.{rules}
use Rattle.section_heads.specs.Heads.Code.{tailer_laws}
use Rattle.section_heads.proofs.open_tailer.Goals as goal

pub returns-in-Some : goal.returns-in-Some
returns-in-Some c = search (tailer_laws, rules)

pub returns-in-None : goal.returns-in-None
returns-in-None c = search (tailer_laws, rules)

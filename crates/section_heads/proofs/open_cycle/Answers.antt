-- Written by tools/proof-answers from proofs.map.
use Rattle.std.proofs.Common.{rules}
use Rattle.section_heads.specs.Heads.Code.{cycle_laws}
use Rattle.section_heads.proofs.open_cycle.Goals as goal

pub read_i64-requires : goal.read_i64-requires
read_i64-requires c = search (cycle_laws, rules)

pub returns-in-Some : goal.returns-in-Some
returns-in-Some c = search (cycle_laws, rules)

pub returns-in-None : goal.returns-in-None
returns-in-None c = search (cycle_laws, rules)

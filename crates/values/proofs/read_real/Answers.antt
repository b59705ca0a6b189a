-- Written by tools/proof-answers from proofs.map.
use Rattle.std.proofs.Common.{rules}
use Rattle.values.specs.Value.Laws.{real_laws}
use Rattle.values.proofs.read_real.Goals as goal

pub read_i64-requires : goal.read_i64-requires
read_i64-requires c = search (real_laws, rules)

pub returns-in-Some : goal.returns-in-Some
returns-in-Some c = search (real_laws, rules)

pub returns-in-None : goal.returns-in-None
returns-in-None c = search (real_laws, rules)

-- Written by tools/proof-answers from proofs.map.
use Rattle.std.proofs.Common.{rules}
use Rattle.doorquill.specs.Lent.Laws.{read_laws}
use Rattle.doorquill.proofs.lent.read_flat.Goals as goal

pub read_passed-requires : goal.read_passed-requires
read_passed-requires c = search (read_laws, rules)

pub returns-in-Ok : goal.returns-in-Ok
returns-in-Ok c = search (read_laws, rules)

pub returns-in-Err : goal.returns-in-Err
returns-in-Err c = search (read_laws, rules)

-- Written by tools/proof-answers from proofs.map.
use Rattle.std.proofs.Common.{rules}
use Rattle.doorquill.specs.Lent.Laws.{check_laws}
use Rattle.doorquill.proofs.lent.check_lent.Goals as goal

pub returns-in-Ok : goal.returns-in-Ok
returns-in-Ok c = search (check_laws, rules)

pub returns-in-Err : goal.returns-in-Err
returns-in-Err c = search (check_laws, rules)

-- Written by tools/proof-answers from proofs.map.
use Rattle.std.proofs.Common.{rules}
use Rattle.doorquill.specs.Lent.Laws.{runs_laws}
use Rattle.doorquill.proofs.lent.first_of.Goals as goal

pub returns : goal.returns
returns c = search (runs_laws, rules)

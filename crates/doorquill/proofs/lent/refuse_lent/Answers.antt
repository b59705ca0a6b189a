-- Written by tools/proof-answers from proofs.map.
use Rattle.std.proofs.Common.{rules}
use Rattle.doorquill.specs.Lent.Laws.{read_laws}
use Rattle.doorquill.proofs.lent.refuse_lent.Goals as goal

pub returns : goal.returns
returns c = search (read_laws, rules)

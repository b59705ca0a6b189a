-- Written by tools/proof-answers from proofs.map.
use Rattle.std.proofs.Common.{rules}
use Rattle.vecstarts.specs.Numbers.Laws.{number_laws}
use Rattle.vecstarts.proofs.list_vector.Goals as goal

pub returns : goal.returns
returns c = search (number_laws, rules)

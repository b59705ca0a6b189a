-- Written by tools/proof-answers from proofs.map.
use Rattle.std.proofs.Common.{rules}
use Rattle.values.specs.Value.Laws.{narrow_laws}
use Rattle.values.proofs.read_narrow.Goals as goal

pub returns-then-kind-le1 : goal.returns-then-kind-le1
returns-then-kind-le1 c = search (narrow_laws, rules)

pub returns-then-kind-le3 : goal.returns-then-kind-le3
returns-then-kind-le3 c = search (narrow_laws, rules)

pub returns : goal.returns
returns c = search (narrow_laws, rules)

-- Written by tools/proof-answers from proofs.map.
use Rattle.std.proofs.Common.{rules}
use Rattle.along.specs.Follows.Code.{near_laws}
use Rattle.along.proofs.near.Goals as goal

pub returns-then-s-at : goal.returns-then-s-at
returns-then-s-at c = search (near_laws, rules)

pub returns-then-s-at-eq0 : goal.returns-then-s-at-eq0
returns-then-s-at-eq0 c = search (near_laws, rules)

pub returns : goal.returns
returns c = search (near_laws, rules)

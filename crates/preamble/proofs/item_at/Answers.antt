-- Written by tools/proof-answers from proofs.map.
use Rattle.std.proofs.Common.{rules}
use Rattle.preamble.specs.Preamble.Code.{at_laws}
use Rattle.preamble.proofs.item_at.Goals as goal

pub returns-then-s-at : goal.returns-then-s-at
returns-then-s-at c = search (at_laws, rules)

pub returns-then-size-eq0 : goal.returns-then-size-eq0
returns-then-size-eq0 c = search (at_laws, rules)

pub returns-then-s-at-2 : goal.returns-then-s-at-2
returns-then-s-at-2 c = search (at_laws, rules)

pub returns : goal.returns
returns c = search (at_laws, rules)

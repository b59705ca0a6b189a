-- Written by tools/proof-answers from proofs.map.
use Rattle.std.proofs.Common.{rules}
use Rattle.numbers.specs.Marks.Code.{mark_laws}
use Rattle.numbers.proofs.marks.is_mark.Goals as goal

pub returns-then-s-at : goal.returns-then-s-at
returns-then-s-at c = search (mark_laws, rules)

pub returns-then-s-at-2 : goal.returns-then-s-at-2
returns-then-s-at-2 c = search (mark_laws, rules)

pub returns-then-s-at-3 : goal.returns-then-s-at-3
returns-then-s-at-3 c = search (mark_laws, rules)

pub returns : goal.returns
returns c = search (mark_laws, rules)

-- Written by tools/proof-answers from proofs.map.
use Rattle.std.proofs.Common.{rules}
use Rattle.vecmarks.proofs.Full.Laws.{last_laws}
use Rattle.full_marks.proofs.all_full_by_last.Goals as goal

pub returns-in-empty : goal.returns-in-empty
returns-in-empty c = search (last_laws, rules)

pub returns-then-last : goal.returns-then-last
returns-then-last c = search (last_laws, rules)

pub returns-else-last : goal.returns-else-last
returns-else-last c = search (last_laws, rules)

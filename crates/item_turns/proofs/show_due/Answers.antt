-- Written by tools/proof-answers from proofs.map.
use Rattle.std.proofs.Common.{rules}
use Rattle.item_turns.specs.Turn.Code.{due_laws}
use Rattle.item_turns.proofs.show_due.Goals as goal

pub returns-then-due : goal.returns-then-due
returns-then-due c = search (due_laws, rules)

pub returns : goal.returns
returns c = search (due_laws, rules)

-- Written by tools/proof-answers from proofs.map.
use Rattle.std.proofs.Common.{rules}
use Rattle.item_turns.specs.Turn.Code.{go_laws}
use Rattle.item_turns.proofs.go_on.Goals as goal

pub returns-then-not-over : goal.returns-then-not-over
returns-then-not-over c = search (go_laws, rules)

pub returns : goal.returns
returns c = search (go_laws, rules)

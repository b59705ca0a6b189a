-- Written by tools/proof-answers from proofs.map.
use Rattle.std.proofs.Common.{rules}
use Rattle.item_turns.specs.Turn.Code.{follow_laws}
use Rattle.item_turns.proofs.follow.Goals as goal

pub overflow_sub-bit : goal.overflow_sub-bit
overflow_sub-bit c = search (follow_laws, rules)

pub returns-in-Listed : goal.returns-in-Listed
returns-in-Listed c = search (follow_laws, rules)

pub returns-in_default : goal.returns-in_default
returns-in_default c = search (follow_laws, rules)

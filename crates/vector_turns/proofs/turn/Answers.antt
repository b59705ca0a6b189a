-- Written by tools/proof-answers from proofs.map.
use Rattle.std.proofs.Common.{rules}
use Rattle.vector_turns.proofs.Arms.{turn_laws}
use Rattle.vector_turns.proofs.turn.Goals as goal

pub returns-in-Write : goal.returns-in-Write
returns-in-Write c = search (turn_laws, rules)

pub returns-in_default : goal.returns-in_default
returns-in_default c = search (turn_laws, rules)

-- Written by tools/proof-answers from proofs.map.
use Rattle.std.proofs.Common.{rules}
use Rattle.turns.specs.Turns.Code.{write_laws}
use Rattle.turns.proofs.turn_write.Goals as goal

pub returns-then-is_second_change : goal.returns-then-is_second_change
returns-then-is_second_change c = search (write_laws, rules)

pub returns : goal.returns
returns c = search (write_laws, rules)

-- Written by tools/proof-answers from proofs.map.
use Rattle.std.proofs.Common.{rules}
use Rattle.turns.specs.Turns.Code.{end_laws}
use Rattle.turns.proofs.turn_end.Goals as goal

pub returns : goal.returns
returns c = search (end_laws, rules)

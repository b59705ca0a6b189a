-- Written by tools/proof-answers from proofs.map.
use Rattle.std.proofs.Common.{rules}
use Rattle.vector_turns.specs.OneVector.Code.{number_laws}
use Rattle.vector_turns.proofs.vector_number.Goals as goal

pub returns : goal.returns
returns c = search (number_laws, rules)

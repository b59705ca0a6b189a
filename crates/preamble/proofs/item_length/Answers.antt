-- Written by tools/proof-answers from proofs.map.
use Rattle.std.proofs.Common.{rules}
use Rattle.preamble.specs.Preamble.Code.{length_laws}
use Rattle.preamble.proofs.item_length.Goals as goal

pub returns-in-1 : goal.returns-in-1
returns-in-1 c = search (length_laws, rules)

pub returns-in-2 : goal.returns-in-2
returns-in-2 c = search (length_laws, rules)

pub returns-in-3 : goal.returns-in-3
returns-in-3 c = search (length_laws, rules)

pub returns-in_default : goal.returns-in_default
returns-in_default c = search (length_laws, rules)

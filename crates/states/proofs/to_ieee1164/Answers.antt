-- Written by tools/proof-answers from proofs.map.
use Rattle.std.proofs.Common.{rules}
use Rattle.states.specs.Letters.Laws.{inverse_laws}
use Rattle.states.proofs.to_ieee1164.Goals as goal

pub returns : goal.returns
returns c = search (inverse_laws, rules)

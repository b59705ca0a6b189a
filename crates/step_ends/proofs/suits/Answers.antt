-- Written by tools/proof-answers from proofs.map.
use Rattle.std.proofs.Common.{rules}
use Rattle.step_ends.specs.Steps.Code.{suits_laws}
use Rattle.step_ends.proofs.suits.Goals as goal

pub returns-in-Session : goal.returns-in-Session
returns-in-Session c = search (suits_laws, rules)

pub returns-in-Strobe : goal.returns-in-Strobe
returns-in-Strobe c = search (suits_laws, rules)

pub returns-in-Close : goal.returns-in-Close
returns-in-Close c = search (suits_laws, rules)

pub returns-in-Other : goal.returns-in-Other
returns-in-Other c = search (suits_laws, rules)

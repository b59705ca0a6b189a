-- Written by tools/proof-answers from proofs.map.
use Rattle.std.proofs.Common.{rules}
use Rattle.step_ends.specs.Steps.Code.{show_laws}
use Rattle.step_ends.proofs.show.Goals as goal

pub returns-in-Session : goal.returns-in-Session
returns-in-Session c = search (show_laws, rules)

pub returns-in-Strobe : goal.returns-in-Strobe
returns-in-Strobe c = search (show_laws, rules)

pub returns-in-Close : goal.returns-in-Close
returns-in-Close c = search (show_laws, rules)

pub returns-in-Other : goal.returns-in-Other
returns-in-Other c = search (show_laws, rules)

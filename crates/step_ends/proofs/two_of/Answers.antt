-- Written by tools/proof-answers from proofs.map.
use Rattle.std.proofs.Common.{rules}
use Rattle.step_ends.specs.Steps.Code.{two_laws}
use Rattle.step_ends.proofs.two_of.Goals as goal

pub returns-then-length-eq0 : goal.returns-then-length-eq0
returns-then-length-eq0 c = search (two_laws, rules)

pub returns-else-length-eq0 : goal.returns-else-length-eq0
returns-else-length-eq0 c = search (two_laws, rules)

pub returns-in-Nine : goal.returns-in-Nine
returns-in-Nine c = search (two_laws, rules)

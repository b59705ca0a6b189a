-- Written by tools/proof-answers from proofs.map.
use Rattle.std.proofs.Common.{rules}
use Rattle.read_back.proofs.Arms.{count_laws}
use Rattle.read_back.proofs.times_said.Goals as goal

pub returns-in-Time : goal.returns-in-Time
returns-in-Time c = search (count_laws, rules)

pub returns-in_default : goal.returns-in_default
returns-in_default c = search (count_laws, rules)

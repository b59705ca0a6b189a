-- Written by tools/proof-answers from proofs.map.
use Rattle.std.proofs.Common.{rules}
use Rattle.vecstarts.specs.Numbers.Laws.{number_laws}
use Rattle.vecstarts.proofs.start_of.Goals as goal

pub returns-then-v-eq0 : goal.returns-then-v-eq0
returns-then-v-eq0 c = search (number_laws, rules)

pub returns-else-v-eq0 : goal.returns-else-v-eq0
returns-else-v-eq0 c = search (number_laws, rules)

-- Written by tools/proof-answers from proofs.map.
use Rattle.std.proofs.Common.{rules}
use Rattle.sections.proofs.Arms.{next_laws}
use Rattle.sections.proofs.next_of.Goals as goal

pub returns-then-id-kinds : goal.returns-then-id-kinds
returns-then-id-kinds c = search (next_laws, rules)

pub returns-else-id-kinds : goal.returns-else-id-kinds
returns-else-id-kinds c = search (next_laws, rules)

pub returns-in_default : goal.returns-in_default
returns-in_default c = search (next_laws, rules)

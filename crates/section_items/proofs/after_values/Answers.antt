-- Written by tools/proof-answers from proofs.map.
use Rattle.std.proofs.Common.{rules}
use Rattle.sections.proofs.Arms.{after_laws}
use Rattle.section_items.proofs.after_values.Goals as goal

pub returns-in-Each : goal.returns-in-Each
returns-in-Each c = search (after_laws, rules)

pub returns-in_default : goal.returns-in_default
returns-in_default c = search (after_laws, rules)

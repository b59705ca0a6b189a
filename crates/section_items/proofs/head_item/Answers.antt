-- Written by tools/proof-answers from proofs.map.
use Rattle.std.proofs.Common.{rules}
use Rattle.sections.proofs.Arms.{place_laws}
use Rattle.section_items.proofs.head_item.Goals as goal

pub returns-in-Entries : goal.returns-in-Entries
returns-in-Entries c = search (place_laws, rules)

pub returns-in-Closing : goal.returns-in-Closing
returns-in-Closing c = search (place_laws, rules)

pub returns-in-Between : goal.returns-in-Between
returns-in-Between c = search (place_laws, rules)

pub returns-in_default : goal.returns-in_default
returns-in_default c = search (place_laws, rules)

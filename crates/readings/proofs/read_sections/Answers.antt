-- `readings::read_sections` meets its contract: each need follows from `sections_laws`. Assumes nothing.
use Rattle.readings.proofs.Arms.{sections_laws}
use Rattle.std.proofs.Common.{rules}
use Rattle.readings.proofs.read_sections.Goals as goal

pub standing-x-requires : goal.standing-x-requires
standing-x-requires c = search (sections_laws, rules)

pub sections-init : goal.sections-init
sections-init c = search (sections_laws, rules)

pub head_item-item-requires : goal.head_item-item-requires
head_item-item-requires c = search (sections_laws, rules)

pub read_step-requires : goal.read_step-requires
read_step-requires c = search (sections_laws, rules)

pub behind-x-requires : goal.behind-x-requires
behind-x-requires c = search (sections_laws, rules)

pub sections-smaller-in-Went : goal.sections-smaller-in-Went
sections-smaller-in-Went c = search (sections_laws, rules)

pub sections-preserved-in-Went : goal.sections-preserved-in-Went
sections-preserved-in-Went c = search (sections_laws, rules)

pub sections-smaller : goal.sections-smaller
sections-smaller c = search (sections_laws, rules)

pub sections-preserved : goal.sections-preserved
sections-preserved c = search (sections_laws, rules)

pub returns-in-Over : goal.returns-in-Over
returns-in-Over c = search (sections_laws, rules)

pub returns-in-Bad : goal.returns-in-Bad
returns-in-Bad c = search (sections_laws, rules)

pub returns-in-Out : goal.returns-in-Out
returns-in-Out c = search (sections_laws, rules)

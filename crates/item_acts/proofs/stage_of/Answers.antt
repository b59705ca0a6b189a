-- Written by tools/proof-answers from proofs.map.
use Rattle.std.proofs.Common.{rules}
use Rattle.item_acts.proofs.Arms.{stage_laws}
use Rattle.item_acts.proofs.stage_of.Goals as goal

pub returns-then-all_ended : goal.returns-then-all_ended
returns-then-all_ended c = search (stage_laws, rules)

pub returns-in-Bad : goal.returns-in-Bad
returns-in-Bad c = search (stage_laws, rules)

pub returns-else-all_ended : goal.returns-else-all_ended
returns-else-all_ended c = search (stage_laws, rules)

pub returns-in_default : goal.returns-in_default
returns-in_default c = search (stage_laws, rules)

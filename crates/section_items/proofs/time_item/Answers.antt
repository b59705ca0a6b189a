-- Written by tools/proof-answers from proofs.map.
use Rattle.std.proofs.Common.{rules}
use Rattle.sections.specs.Item.Code.{delta_laws}
use Rattle.slices.specs.Exit.{ok_at}
use Rattle.section_items.proofs.time_item.Goals as goal

pub returns-in-Ok-Time : goal.returns-in-Ok-Time
returns-in-Ok-Time c = search (delta_laws, ok_at, rules)

pub returns-in-Ok-End : goal.returns-in-Ok-End
returns-in-Ok-End c = search (delta_laws, ok_at, rules)

pub returns-in-Err : goal.returns-in-Err
returns-in-Err c = search (delta_laws, rules)

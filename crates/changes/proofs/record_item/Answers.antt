-- Written by tools/proof-answers from proofs.map.
use Rattle.std.proofs.Common.{rules}
use Rattle.changes.specs.Changes.Items.{item_laws}
use Rattle.slices.specs.Exit.{ok_at}
use Rattle.changes.proofs.record_item.Goals as goal

pub returns-in-Ok-Time : goal.returns-in-Ok-Time
returns-in-Ok-Time c = search (item_laws, ok_at, rules)

pub returns-in-Ok-Write : goal.returns-in-Ok-Write
returns-in-Ok-Write c = search (item_laws, ok_at, rules)

pub returns-in-Ok-StepEnd : goal.returns-in-Ok-StepEnd
returns-in-Ok-StepEnd c = search (item_laws, ok_at, rules)

pub returns-in-Ok-End : goal.returns-in-Ok-End
returns-in-Ok-End c = search (item_laws, ok_at, rules)

pub returns-in-Err : goal.returns-in-Err
returns-in-Err c = search (item_laws, rules)

-- Written by tools/proof-answers from proofs.map.
use Rattle.std.proofs.Common.{rules}
use Rattle.sections.specs.Item.Code.{write_laws}
use Rattle.section_items.proofs.write_item.Goals as goal

pub returns-in-Ok : goal.returns-in-Ok
returns-in-Ok c = search (write_laws, rules)

pub returns-in-Err : goal.returns-in-Err
returns-in-Err c = search (write_laws, rules)

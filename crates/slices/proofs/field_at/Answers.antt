-- Written by tools/proof-answers from proofs.map.
use Rattle.std.proofs.Common.{rules}
use Rattle.slices.specs.Field.{field_laws}
use Rattle.slices.proofs.field_at.Goals as goal

pub returns-then-s-n : goal.returns-then-s-n
returns-then-s-n c = search (field_laws, rules)

pub returns-then-at-s : goal.returns-then-at-s
returns-then-at-s c = search (field_laws, rules)

pub returns-else-at-s : goal.returns-else-at-s
returns-else-at-s c = search (field_laws, rules)

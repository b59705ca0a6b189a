-- Written by tools/proof-answers from proofs.map.
use Rattle.std.proofs.Common.{rules}
use Rattle.vecmarks.proofs.Info.Laws.{field_laws}
use Rattle.vecmarks.proofs.mark_bit_changed.Goals as goal

pub overflow_add-info-2 : goal.overflow_add-info-2
overflow_add-info-2 c = search (field_laws, rules)

pub set_at-requires : goal.set_at-requires
set_at-requires c = search (field_laws, rules)

pub returns : goal.returns
returns c = search (field_laws, rules)

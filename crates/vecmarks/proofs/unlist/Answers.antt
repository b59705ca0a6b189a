-- Written by tools/proof-answers from proofs.map.
use Rattle.std.proofs.Common.{rules}
use Rattle.vecmarks.proofs.Info.Laws.{field_laws}
use Rattle.vecmarks.proofs.unlist.Goals as goal

pub overflow_add-flags-2 : goal.overflow_add-flags-2
overflow_add-flags-2 c = search (field_laws, rules)

pub set_at-requires : goal.set_at-requires
set_at-requires c = search (field_laws, rules)

pub returns : goal.returns
returns c = search (field_laws, rules)

-- Written by tools/proof-answers from proofs.map.
use Rattle.std.proofs.Common.{rules}
use Rattle.section_heads.specs.Heads.Code.{snapshot_laws}
use Rattle.section_heads.proofs.open_snapshot.Goals as goal

pub is_mark-requires : goal.is_mark-requires
is_mark-requires c = search (snapshot_laws, rules)

pub overflow_add-at : goal.overflow_add-at
overflow_add-at c = search (snapshot_laws, rules)

pub read_i64-requires : goal.read_i64-requires
read_i64-requires c = search (snapshot_laws, rules)

pub returns-then-is_mark : goal.returns-then-is_mark
returns-then-is_mark c = search (snapshot_laws, rules)

pub returns-else-is_mark : goal.returns-else-is_mark
returns-else-is_mark c = search (snapshot_laws, rules)

pub returns-in-None : goal.returns-in-None
returns-in-None c = search (snapshot_laws, rules)

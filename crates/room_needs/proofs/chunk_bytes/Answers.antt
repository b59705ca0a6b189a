-- Written by tools/proof-answers from proofs.map.
use Rattle.std.proofs.Common.{rules}
use Rattle.tables.specs.Checks.Loops.{room_laws}
use Rattle.room_needs.proofs.chunk_bytes.Goals as goal

pub overflow_add-result : goal.overflow_add-result
overflow_add-result c = search (room_laws, rules)

pub returns : goal.returns
returns c = search (room_laws, rules)

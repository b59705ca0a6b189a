-- Written by tools/proof-answers from proofs.map.
use Rattle.std.proofs.Common.{rules}
use Rattle.vecstarts.specs.Numbers.Laws.{number_laws}
use Rattle.vecstarts.proofs.chunk_bytes.Goals as goal

pub overflow_add-result : goal.overflow_add-result
overflow_add-result c = search (number_laws, rules)

-- Written by tools/proof-answers from proofs.map.
use Rattle.std.proofs.Common.{rules}
use Rattle.changes.specs.Changes.Record.{written_laws}
use Rattle.changes.proofs.wide_write.Goals as goal

pub returns-then-kind-ge5 : goal.returns-then-kind-ge5
returns-then-kind-ge5 c = search (written_laws, rules)

pub returns-else-kind-ge5 : goal.returns-else-kind-ge5
returns-else-kind-ge5 c = search (written_laws, rules)

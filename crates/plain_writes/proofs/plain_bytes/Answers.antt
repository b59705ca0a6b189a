-- Written by tools/proof-answers from proofs.map.
use Rattle.std.proofs.Common.{rules}
use Rattle.plain_writes.specs.Plain.Code.{bytes_laws}
use Rattle.plain_writes.proofs.plain_bytes.Goals as goal

pub returns-then-kind-eq5 : goal.returns-then-kind-eq5
returns-then-kind-eq5 c = search (bytes_laws, rules)

pub returns-else-kind-eq5 : goal.returns-else-kind-eq5
returns-else-kind-eq5 c = search (bytes_laws, rules)

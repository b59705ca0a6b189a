-- Written by tools/proof-answers from proofs.map.
use Rattle.std.proofs.Common.{rules}
use Rattle.changes.specs.Changes.Record.{write_laws}
use Rattle.changes.proofs.write_record.Goals as goal

pub returns-then-kinds-id : goal.returns-then-kinds-id
returns-then-kinds-id c = search (write_laws, rules)

pub returns-then-kind-eq2 : goal.returns-then-kind-eq2
returns-then-kind-eq2 c = search (write_laws, rules)

pub returns-then-id-ge1 : goal.returns-then-id-ge1
returns-then-id-ge1 c = search (write_laws, rules)

pub returns : goal.returns
returns c = search (write_laws, rules)

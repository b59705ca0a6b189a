-- Written by tools/proof-answers from proofs.map.
use Rattle.std.proofs.Common.{rules}
use Rattle.changes.specs.Changes.Record.{record_laws}
use Rattle.changes.proofs.next_change.Goals as goal

pub returns-then-inside : goal.returns-then-inside
returns-then-inside c = search (record_laws, rules)

pub returns-then-s-at : goal.returns-then-s-at
returns-then-s-at c = search (record_laws, rules)

pub returns : goal.returns
returns c = search (record_laws, rules)

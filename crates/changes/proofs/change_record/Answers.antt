-- Written by tools/proof-answers from proofs.map.
use Rattle.std.proofs.Common.{rules}
use Rattle.changes.specs.Changes.Record.{record_laws}
use Rattle.changes.proofs.change_record.Goals as goal

pub returns-then-n-eq0 : goal.returns-then-n-eq0
returns-then-n-eq0 c = search (record_laws, rules)

pub returns-then-n-s : goal.returns-then-n-s
returns-then-n-s c = search (record_laws, rules)

pub returns : goal.returns
returns c = search (record_laws, rules)

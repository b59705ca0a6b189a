-- Written by tools/proof-answers from proofs.map.
use Rattle.std.proofs.Common.{rules}
use Rattle.changes.specs.Changes.Record.{written_laws}
use Rattle.changes.proofs.signal_kind.Goals as goal

pub returns : goal.returns
returns c = search (written_laws, rules)

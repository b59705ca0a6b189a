-- Written by tools/proof-answers from proofs.map.
use Rattle.std.proofs.Common.{rules}
use Rattle.vecmarks.proofs.Info.Laws.{field_laws}
use Rattle.vecmarks.proofs.has_signal_changed.Goals as goal

pub returns : goal.returns
returns c = search (field_laws, rules)

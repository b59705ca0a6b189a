-- Written by tools/proof-answers from proofs.map.
use Rattle.std.proofs.Common.{rules}
use Rattle.vecmarks.proofs.Full.Laws.{marks_laws}
use Rattle.full_marks.proofs.full_signal_has_changed.Goals as goal

pub returns : goal.returns
returns c = search (marks_laws, rules)

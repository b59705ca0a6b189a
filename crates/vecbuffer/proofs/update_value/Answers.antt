-- Written by tools/proof-answers from proofs.map.
use Rattle.std.proofs.Common.{rules}
use Rattle.vecbuffer.proofs.Changes.Laws.{update_laws}
use Rattle.vecbuffer.proofs.update_value.Goals as goal

pub mark_signal_changed-requires : goal.mark_signal_changed-requires
mark_signal_changed-requires c = search (update_laws, rules)

pub returns : goal.returns
returns c = search (update_laws, rules)

-- Written by tools/proof-answers from proofs.map.
use Rattle.std.proofs.Common.{rules}
use Rattle.vecbuffer.proofs.Changes.Laws.{mark_laws}
use Rattle.vecbuffer.proofs.mark_signal_changed.Goals as goal

pub returns-then-has_bit_changed : goal.returns-then-has_bit_changed
returns-then-has_bit_changed c = search (mark_laws, rules)

pub returns : goal.returns
returns c = search (mark_laws, rules)

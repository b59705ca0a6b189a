-- Written by tools/proof-answers from proofs.map.
use Rattle.std.proofs.Common.{rules}
use Rattle.vecbuffer.proofs.Changes.Laws.{take_laws}
use Rattle.vecbuffer.proofs.get_full_value_and_clear_changes.Goals as goal

pub returns : goal.returns
returns c = search (take_laws, rules)

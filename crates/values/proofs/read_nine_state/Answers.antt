-- Written by tools/proof-answers from proofs.map.
use Rattle.std.proofs.Common.{rules}
use Rattle.values.specs.Value.Laws.{byte_laws}
use Rattle.values.proofs.read_nine_state.Goals as goal

pub returns-then-s-at : goal.returns-then-s-at
returns-then-s-at c = search (byte_laws, rules)

pub returns-then-b-le8 : goal.returns-then-b-le8
returns-then-b-le8 c = search (byte_laws, rules)

pub returns-else-b-le8 : goal.returns-else-b-le8
returns-else-b-le8 c = search (byte_laws, rules)

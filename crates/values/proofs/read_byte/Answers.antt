-- Written by tools/proof-answers from proofs.map.
use Rattle.std.proofs.Common.{rules}
use Rattle.values.specs.Value.Laws.{byte_laws}
use Rattle.values.proofs.read_byte.Goals as goal

pub returns-then-s-at : goal.returns-then-s-at
returns-then-s-at c = search (byte_laws, rules)

pub returns-then-b-most : goal.returns-then-b-most
returns-then-b-most c = search (byte_laws, rules)

pub returns-else-b-most : goal.returns-else-b-most
returns-else-b-most c = search (byte_laws, rules)

-- Written by tools/proof-answers from proofs.map.
use Rattle.std.proofs.Common.{rules}
use Rattle.read_back.specs.ReadBack.Turn.{byte_laws}
use Rattle.read_back.proofs.byte_of.Goals as goal

pub overflow_cast-value : goal.overflow_cast-value
overflow_cast-value c = search (byte_laws, rules)

pub to_ieee1164-requires : goal.to_ieee1164-requires
to_ieee1164-requires c = search (byte_laws, rules)

pub returns-then-kind-le1 : goal.returns-then-kind-le1
returns-then-kind-le1 c = search (byte_laws, rules)

pub overflow_cast-result : goal.overflow_cast-result
overflow_cast-result c = search (byte_laws, rules)

pub returns : goal.returns
returns c = search (byte_laws, rules)

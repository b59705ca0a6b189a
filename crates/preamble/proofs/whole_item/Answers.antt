-- Written by tools/proof-answers from proofs.map.
use Rattle.std.proofs.Common.{rules}
use Rattle.preamble.specs.Preamble.Code.{whole_laws}
use Rattle.preamble.proofs.whole_item.Goals as goal

pub signal_at-requires : goal.signal_at-requires
signal_at-requires c = search (whole_laws, rules)

pub vector_at-requires : goal.vector_at-requires
vector_at-requires c = search (whole_laws, rules)

pub flag_at-requires : goal.flag_at-requires
flag_at-requires c = search (whole_laws, rules)

pub returns-in-1 : goal.returns-in-1
returns-in-1 c = search (whole_laws, rules)

pub returns-in-2 : goal.returns-in-2
returns-in-2 c = search (whole_laws, rules)

pub returns-in_default : goal.returns-in_default
returns-in_default c = search (whole_laws, rules)

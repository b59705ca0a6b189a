-- Written by tools/proof-answers from proofs.map.
use Rattle.std.proofs.Common.{rules}
use Rattle.vecstarts.specs.Numbers.Laws.{info_laws}
use Rattle.vecstarts.proofs.info_of.Goals as goal

pub start_of-requires : goal.start_of-requires
start_of-requires c = search (info_laws, rules)

pub returns : goal.returns
returns c = search (info_laws, rules)

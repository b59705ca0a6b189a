-- `item_turns::vector_info` meets its contract: each need follows from `info_laws`. Assumes nothing.
use Rattle.item_turns.specs.Turn.Code.{info_laws, ask_looks}
use Rattle.std.proofs.Common.{rules}
use Rattle.item_turns.proofs.vector_info.Goals as goal

pub bounds-n-1 : goal.bounds-n-1
bounds-n-1 c = search (info_laws, rules)

pub bounds-n-2 : goal.bounds-n-2
bounds-n-2 c = search (info_laws, rules)

pub bounds-n-3 : goal.bounds-n-3
bounds-n-3 c = search (info_laws, rules)

pub bounds-b-1 : goal.bounds-b-1
bounds-b-1 c = search (info_laws, rules)

pub bounds-n-4 : goal.bounds-n-4
bounds-n-4 c = search (info_laws, rules)

pub vector_of-v-requires : goal.vector_of-v-requires
vector_of-v-requires c = search (info_laws, rules)

pub returns : goal.returns
returns c = search (info_laws, rules)

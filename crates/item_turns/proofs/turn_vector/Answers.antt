-- `item_turns::turn_vector` meets its contract: each need follows from `vector_laws`. Assumes nothing.
use Rattle.item_turns.specs.Turn.Laws.{turning, go_asks, turns_full, turns_gone, vector_laws}
use Rattle.std.proofs.Common.{rules}
use Rattle.item_turns.proofs.turn_vector.Goals as goal

pub bounds-n-3 : goal.bounds-n-3
bounds-n-3 c = search (vector_laws, rules)

pub vector_info-x-requires : goal.vector_info-x-requires
vector_info-x-requires c = search (vector_laws, rules)

pub show_due-requires : goal.show_due-requires
show_due-requires c = search (vector_laws, rules)

pub stays-requires : goal.stays-requires
stays-requires c = search (vector_laws, rules)

pub turn-t-requires : goal.turn-t-requires
turn-t-requires c = turning c.requires c.vector_info-x.ensures

pub go_on-requires : goal.go_on-requires
go_on-requires c = go_asks c.requires c.vector_info-x.ensures c.turn-t.ensures c.show_due.ensures c.in-Some.is

pub returns-in-Some : goal.returns-in-Some
returns-in-Some c = turns_gone c.requires c.vector_info-x.ensures c.turn-t.ensures c.show_due.ensures c.in-Some.is c.go_on.ensures

pub returns-in-None : goal.returns-in-None
returns-in-None c = turns_full c.requires c.vector_info-x.ensures c.turn-t.ensures c.show_due.ensures c.in-None.is c.stays.ensures

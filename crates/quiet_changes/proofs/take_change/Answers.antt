-- `quiet_changes::take_change` meets its contract: each need follows from `take_laws`. Assumes nothing.
use Rattle.quiet_changes.specs.Along.Code.{ask_down, take_laws}
use Rattle.std.proofs.Common.{ap, not, rules}
use Rattle.quiet_changes.proofs.take_change.Goals as goal

pub bounds-s-at : goal.bounds-s-at
bounds-s-at c = search (take_laws, rules)

pub short_delta-requires : goal.short_delta-requires
short_delta-requires c = search (take_laws, rules)

pub returns-then-not-short_delta : goal.returns-then-not-short_delta
returns-then-not-short_delta c = search (take_laws, rules)

pub overflow_add-at : goal.overflow_add-at
overflow_add-at c = search (take_laws, rules)

pub bounds-s-at-2 : goal.bounds-s-at-2
bounds-s-at-2 c = search (take_laws, rules)

pub short_value-requires : goal.short_value-requires
short_value-requires c = search (take_laws, rules)

pub usize_of_byte-requires : goal.usize_of_byte-requires
usize_of_byte-requires c = search (take_laws, rules)

pub store_down-requires : goal.store_down-requires
store_down-requires c = ask_down c.requires c.short_delta.ensures (ap not c.if-not-short_delta.false) c.short_value.ensures c.in-Some.is c.usize_of_byte.ensures.0

pub returns-in-Some : goal.returns-in-Some
returns-in-Some c = search (take_laws, rules)

pub returns-in-None : goal.returns-in-None
returns-in-None c = search (take_laws, rules)

-- `item_turns::plain_item` meets its contract: each need follows from `plain_laws`. Assumes nothing.
use Rattle.item_turns.specs.Turn.Code.{ask_alone}
use Rattle.item_turns.proofs.Arms.{plain_laws}
use Rattle.std.proofs.Common.{rules}
use Rattle.item_turns.proofs.plain_item.Goals as goal

pub bounds-b-0 : goal.bounds-b-0
bounds-b-0 c = search (plain_laws, rules)

pub bounds-n-0 : goal.bounds-n-0
bounds-n-0 c = search (plain_laws, rules)

pub goes_on-requires : goal.goes_on-requires
goes_on-requires c = search (plain_laws, rules)

pub stays-requires : goal.stays-requires
stays-requires c = search (plain_laws, rules)

pub stays-requires-in_default : goal.stays-requires-in_default
stays-requires-in_default c = search (plain_laws, rules)

pub returns-in-Some : goal.returns-in-Some
returns-in-Some c = search (plain_laws, rules)

pub returns-in-None : goal.returns-in-None
returns-in-None c = search (plain_laws, rules)

pub returns-in_default : goal.returns-in_default
returns-in_default c = search (plain_laws, rules)

pub write_plain-requires : goal.write_plain-requires
write_plain-requires c = ask_alone c.requires c.in-Write.is

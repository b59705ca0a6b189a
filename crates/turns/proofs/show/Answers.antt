-- Written by tools/proof-answers from proofs.map.
use Rattle.std.proofs.Common.{rules}
use Rattle.turns.specs.Turns.Code.{show_laws}
use Rattle.turns.proofs.show.Goals as goal

pub returns-then-not-room_for : goal.returns-then-not-room_for
returns-then-not-room_for c = search (show_laws, rules)

pub get_full_value_and_clear_changes-requires : goal.get_full_value_and_clear_changes-requires
get_full_value_and_clear_changes-requires c = search (show_laws, rules)

pub append_value-used-requires : goal.append_value-used-requires
append_value-used-requires c = search (show_laws, rules)

pub returns : goal.returns
returns c = search (show_laws, rules)

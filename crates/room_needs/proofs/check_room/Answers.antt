use Rattle.std.proofs.Common.{rules}
use Rattle.tables.specs.Checks.Loops.{room_laws}
use Rattle.room_needs.proofs.check_room.Goals as goal

pub returns : goal.returns
returns c = let e = rw (← c.tables.view_is) at c.total_bytes.ensures in rw (← c.tables.view_is) (search (room_laws, rules))

use Rattle.std.proofs.Common.{rules}
use Rattle.tables.specs.Checks.Loops.{room_laws}
use Rattle.room_needs.proofs.total_bytes.Goals as goal

pub loop-v-init : goal.loop-v-init
loop-v-init c = search (room_laws, rules)

pub loop-v-preserved : goal.loop-v-preserved
loop-v-preserved c =
    let p = rw (← c.tables.view_is) at c.loop-v.invariant in
    let r = rw (← c.tables.view_is) at c.requires in
    rw (← c.tables.view_is) (search (room_laws, rules))

pub returns : goal.returns
returns c = let p = rw (← c.tables.view_is) at c.loop-v.invariant in rw (← c.tables.view_is) (search (room_laws, rules))

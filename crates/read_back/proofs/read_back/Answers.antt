-- `read_back::read_back` meets its contract: each need follows from `loop_laws`. Assumes nothing.
use Prim.Native.Nat.{◌-◌}
use lib.ListN.{length}
use Rattle.read_back.specs.ReadBack.Loop.{On, left_over, loop_laws}
use Rattle.std.proofs.Common.{rules}
use Rattle.read_back.proofs.read_back.Goals as goal

pub standing-requires : goal.standing-requires
standing-requires c = search (loop_laws, rules)

pub loop-q-init : goal.loop-q-init
loop-q-init c = search (loop_laws, rules)

pub one_item-requires : goal.one_item-requires
one_item-requires c = search (loop_laws, rules)

pub loop-q-smaller : goal.loop-q-smaller
loop-q-smaller c = search (loop_laws, rules)

pub loop-q-preserved : goal.loop-q-preserved
loop-q-preserved c = search (loop_laws, rules)

pub returns-in-Break : goal.returns-in-Break
returns-in-Break c = search (loop_laws, rules)

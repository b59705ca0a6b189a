-- `value_readings::read_values` meets its contract: each need follows from `values_laws`. Assumes nothing.
use Rattle.value_readings.specs.Values.Code.{on_more, on_out, on_over, on_still, still_less, values_laws}
use Rattle.std.proofs.Common.{rules}
use Rattle.value_readings.proofs.read_values.Goals as goal

pub loop-at-init : goal.loop-at-init
loop-at-init c = search (values_laws, rules)

pub standing-x-requires : goal.standing-x-requires
standing-x-requires c = search (values_laws, rules)

pub one_value-w-requires : goal.one_value-w-requires
one_value-w-requires c = search (values_laws, rules)

pub loop-at-smaller-in-On : goal.loop-at-smaller-in-On
loop-at-smaller-in-On c = search (values_laws, rules)

pub next_step-requires : goal.next_step-requires
next_step-requires c = search (values_laws, rules)

pub loop-at-preserved-in-On : goal.loop-at-preserved-in-On
loop-at-preserved-in-On c =
    on_more c.loop-at.invariant c.standing-x.ensures c.one_value-w.ensures c.in-On.is (search (values_laws, rules))

pub loop-at-smaller : goal.loop-at-smaller
loop-at-smaller c = still_less c.loop-at.invariant c.standing-x.ensures c.one_value-w.ensures c.in-Stay.is

pub loop-at-preserved : goal.loop-at-preserved
loop-at-preserved c =
    on_still c.loop-at.invariant c.standing-x.ensures c.one_value-w.ensures c.in-Stay.is (search (values_laws, rules))

pub returns-in-Over : goal.returns-in-Over
returns-in-Over c =
    on_over c.requires c.loop-at.invariant c.standing-x.ensures c.one_value-w.ensures c.in-Over.is c.next_step.ensures

pub returns-in-Out : goal.returns-in-Out
returns-in-Out c = on_out c.requires c.loop-at.invariant c.standing-x.ensures c.one_value-w.ensures c.in-Out.is

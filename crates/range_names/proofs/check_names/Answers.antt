use Rattle.std.proofs.Common.{rules, ◌<◌, length}
use Rattle.tables.specs.Checks.Loops.{names_laws}
use Rattle.range_names.proofs.check_names.Goals as goal

pub loop-v-init : goal.loop-v-init
loop-v-init c = rw (← c.tables.view_is) (search (names_laws, rules))

pub loop-v-preserved : goal.loop-v-preserved
loop-v-preserved c =
    let h : c.loop-v.v < length c.args.tables.now.mins = rw (← c.tables.view_is) c.loop-v-test.true in
    search (names_laws, rules)

pub returns-then-best-tables : goal.returns-then-best-tables
returns-then-best-tables c = let p = rw (← c.tables.view_is) at c.loop-v.invariant in rw (← c.tables.view_is) (search (names_laws, rules))

pub returns : goal.returns
returns c = let p = rw (← c.tables.view_is) at c.loop-v.invariant in rw (← c.tables.view_is) (search (names_laws, rules))

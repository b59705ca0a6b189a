use Rattle.std.proofs.Common.{rules}
use Rattle.vecstarts.specs.Numbers.Laws.{fill_laws}
use Rattle.vecstarts.proofs.fill_starts.Goals as goal

pub loop-i-init : goal.loop-i-init
loop-i-init c = search (fill_laws, rules)

pub overflow_add-at : goal.overflow_add-at
overflow_add-at c = search (fill_laws, rules)

pub overflow_cast-list : goal.overflow_cast-list
overflow_cast-list c = search (fill_laws, rules)

pub loop-i-preserved : goal.loop-i-preserved
loop-i-preserved c = search (fill_laws, rules)

use Rattle.vecstarts.specs.Numbers.Laws.{Filling}
use Rattle.vecstarts.proofs.fill_starts.Given as goal

abbrev pub invariant-loop-i : goal.invariant-loop-i
invariant-loop-i l = Filling l.mins l.maxs l.states l.initial.list l.at l.i l.list

-- Written by tools/proof-answers from proofs.map.
use Rattle.std.proofs.Common.{rules}
use Rattle.fragments.specs.Counting.Loop.{loop_laws}
use Rattle.fragment_counting.proofs.count_fragments.Goals as goal

pub loop-q-init : goal.loop-q-init
loop-q-init c = search (loop_laws, rules)

pub loop-q-smaller : goal.loop-q-smaller
loop-q-smaller c = search (loop_laws, rules)

pub loop-q-preserved : goal.loop-q-preserved
loop-q-preserved c = search (loop_laws, rules)

pub returns-in-Break : goal.returns-in-Break
returns-in-Break c = search (loop_laws, rules)

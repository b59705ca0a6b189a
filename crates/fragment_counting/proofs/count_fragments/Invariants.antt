-- Written by tools/proof-answers from proofs.map.
use Rattle.std.proofs.Common.{◌-◌, length}
use Rattle.fragments.specs.Counting.Loop.{On}
use Rattle.fragment_counting.proofs.count_fragments.Given as goal

abbrev pub invariant-loop-q : goal.invariant-loop-q
invariant-loop-q l = On l.names l.s l.values l.initial.out l.bench l.p l.out

abbrev pub decreases-loop-q : goal.decreases-loop-q
decreases-loop-q l = length l.s - l.p.read

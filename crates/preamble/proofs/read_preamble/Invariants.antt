-- Written by tools/proof-answers from proofs.map.
use Rattle.std.proofs.Common.{◌-◌, length}
use Rattle.preamble.specs.Preamble.Loop.{Going}
use Rattle.preamble.proofs.read_preamble.Given as goal

abbrev pub invariant-loop-q : goal.invariant-loop-q
invariant-loop-q l = Going l.s l.kinds l.refs l.vecs l.mins l.maxs l.states l.vec_refs l.p

abbrev pub decreases-loop-q : goal.decreases-loop-q
decreases-loop-q l = length l.s - l.p.at

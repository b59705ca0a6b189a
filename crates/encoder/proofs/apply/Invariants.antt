-- Written by tools/proof-answers from proofs.map.
use Rattle.std.proofs.Common.{◌-◌, length}
use Rattle.encoder.specs.Rule.Code.{On}
use Rattle.encoder.proofs.apply.Given as goal

abbrev pub invariant-loop-q : goal.invariant-loop-q
invariant-loop-q l = On l.s l.values l.initial.kept l.p l.kept

abbrev pub decreases-loop-q : goal.decreases-loop-q
decreases-loop-q l = length l.s - l.p.read

-- Written by tools/proof-answers from proofs.map.
use Rattle.std.proofs.Common.{◌-◌}
use Rattle.fragment_records.specs.Output.Code.{Holding}
use Rattle.fragment_counting.proofs.put_held.Given as goal

abbrev pub invariant-loop-k : goal.invariant-loop-k
invariant-loop-k l = Holding l.bench l.initial.out l.at l.out l.count l.k

abbrev pub decreases-loop-k : goal.decreases-loop-k
decreases-loop-k l = 32 - l.k

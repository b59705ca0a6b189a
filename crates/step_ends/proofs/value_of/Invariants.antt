use Rattle.std.proofs.Common.{◌+◌, ◌-◌, take, drop}
use Rattle.step_ends.specs.Steps.Code.{Spelled}
use Rattle.step_ends.proofs.value_of.Given as goal

abbrev pub invariant-loop-byte : goal.invariant-loop-byte
invariant-loop-byte l = Spelled (take (l.start + l.count - l.start) (drop l.start l.values)) l.value l.byte-index

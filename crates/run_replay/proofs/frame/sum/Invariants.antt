use Prim.Native.Nat.{◌-◌, ◌*◌, ◌≤◌}
use Rattle.std.proofs.Common.{◌-◌, length}
use Rattle.run_replay.proofs.frame.sum.Given as goal

abbrev pub invariant-loop-k : goal.invariant-loop-k
invariant-loop-k l = (l.k ≤ 21) × (l.total ≤ 65535 * l.k)

abbrev pub decreases-loop-k : goal.decreases-loop-k
decreases-loop-k l = 21 - l.k

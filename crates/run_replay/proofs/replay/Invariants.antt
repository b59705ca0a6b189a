-- What is left to do grows less, and the buffers stay as long as they were.
use Rattle.std.proofs.Common.{◌≡◌, ◌≤◌, length}
use Rattle.run_replay.proofs.replay.Given as goal

abbrev pub invariant-loop-left : goal.invariant-loop-left
invariant-loop-left g l =
    (l.left ≤ 65536) × (length l.frame ≡ length l.initial.frame) × (length l.counts ≡ length l.initial.counts)

abbrev pub decreases-loop-left : goal.decreases-loop-left
decreases-loop-left g l = l.left

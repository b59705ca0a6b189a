use Rattle.tables.specs.Checks.Loops.{Summing}
use Rattle.room_needs.proofs.total_bytes.Given as goal

abbrev pub invariant-loop-v : goal.invariant-loop-v
invariant-loop-v l = Summing l.tables l.v l.sum

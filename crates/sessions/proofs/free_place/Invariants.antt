use Rattle.sessions.specs.Places.Code.{SeekingFree}
use Rattle.sessions.proofs.free_place.Given as goal

abbrev pub invariant-loop-k : goal.invariant-loop-k
invariant-loop-k l = SeekingFree l.bench l.k

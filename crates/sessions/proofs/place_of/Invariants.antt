use Rattle.sessions.specs.Places.Code.{SeekingAt}
use Rattle.sessions.proofs.place_of.Given as goal

abbrev pub invariant-loop-k : goal.invariant-loop-k
invariant-loop-k l = SeekingAt l.bench l.session l.k

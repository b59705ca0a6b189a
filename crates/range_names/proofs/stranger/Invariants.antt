use Rattle.tables.specs.Checks.Loops.{Scanning}
use Rattle.range_names.proofs.stranger.Given as goal

abbrev pub invariant-loop-id : goal.invariant-loop-id
invariant-loop-id l = Scanning l.vecs l.number l.min l.id

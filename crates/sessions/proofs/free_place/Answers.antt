use Rattle.std.proofs.Common.{rules}
use Rattle.sessions.specs.Places.Code.{free_laws}
use Rattle.sessions.proofs.free_place.Goals as goal

pub loop-k-init : goal.loop-k-init
loop-k-init c = search (free_laws, rules)

pub returns-then-bench-k-eq0 : goal.returns-then-bench-k-eq0
returns-then-bench-k-eq0 c = search (free_laws, rules)

pub loop-k-preserved : goal.loop-k-preserved
loop-k-preserved c = search (free_laws, rules)

pub returns : goal.returns
returns c = search (free_laws, rules)

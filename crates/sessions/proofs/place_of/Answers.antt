use Rattle.std.proofs.Common.{rules}
use Rattle.sessions.specs.Places.Code.{seek_laws}
use Rattle.sessions.proofs.place_of.Goals as goal

pub loop-k-init : goal.loop-k-init
loop-k-init c = search (seek_laws, rules)

pub returns-then-is_at : goal.returns-then-is_at
returns-then-is_at c = search (seek_laws, rules)

pub loop-k-preserved : goal.loop-k-preserved
loop-k-preserved c = search (seek_laws, rules)

pub returns : goal.returns
returns c = search (seek_laws, rules)

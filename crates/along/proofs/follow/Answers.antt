-- Written by tools/proof-answers from proofs.map.
use Rattle.std.proofs.Common.{rules}
use Rattle.along.specs.Follows.Code.{follow_laws}
use Rattle.along.proofs.follow.Goals as goal

pub loop-i-init : goal.loop-i-init
loop-i-init c = search (follow_laws, rules)

pub loop-i-preserved : goal.loop-i-preserved
loop-i-preserved c = search (follow_laws, rules)

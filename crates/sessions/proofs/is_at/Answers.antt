-- Written by tools/proof-answers from proofs.map.
use Rattle.std.proofs.Common.{rules}
use Rattle.sessions.specs.Places.Code.{at_laws}
use Rattle.sessions.proofs.is_at.Goals as goal

pub returns-then-bench-k-eq0 : goal.returns-then-bench-k-eq0
returns-then-bench-k-eq0 c = search (at_laws, rules)

pub returns : goal.returns
returns c = search (at_laws, rules)

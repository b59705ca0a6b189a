-- Written by tools/proof-answers from proofs.map.
use Rattle.std.proofs.Common.{rules}
use Rattle.sessions.specs.Places.Code.{for_laws}
use Rattle.sessions.proofs.place_for.Goals as goal

pub returns-then-k-lt32 : goal.returns-then-k-lt32
returns-then-k-lt32 c = search (for_laws, rules)

pub returns : goal.returns
returns c = search (for_laws, rules)

-- Written by tools/proof-answers from proofs.map.
use Rattle.std.proofs.Common.{rules}
use Rattle.sessions.specs.Places.Code.{place_laws}
use Rattle.sessions.proofs.dropped.Goals as goal

pub returns : goal.returns
returns c = search (place_laws, rules)

-- Written by tools/proof-answers from proofs.map.
use Rattle.std.proofs.Common.{rules}
use Rattle.bench.specs.Bench.Laws.{apart_laws}
use Rattle.bench.proofs.apart.Goals as goal

pub returns-then-session-strobe : goal.returns-then-session-strobe
returns-then-session-strobe c = search (apart_laws, rules)

pub returns-then-session-close : goal.returns-then-session-close
returns-then-session-close c = search (apart_laws, rules)

pub returns : goal.returns
returns c = search (apart_laws, rules)

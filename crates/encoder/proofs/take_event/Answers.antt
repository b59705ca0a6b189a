-- Written by tools/proof-answers from proofs.map.
use Rattle.std.proofs.Common.{rules}
use Rattle.encoder.specs.Rule.Code.{take_laws}
use Rattle.encoder.proofs.take_event.Goals as goal

pub returns-then-kept-p : goal.returns-then-kept-p
returns-then-kept-p c = search (take_laws, rules)

pub returns : goal.returns
returns c = search (take_laws, rules)

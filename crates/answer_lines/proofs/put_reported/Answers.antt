-- Written by tools/proof-answers from proofs.map.
use Rattle.std.proofs.Common.{rules}
use Rattle.answer_lines.specs.Told.Code.{reported_laws}
use Rattle.answer_lines.proofs.put_reported.Goals as goal

pub returns-then-holds : goal.returns-then-holds
returns-then-holds c = search (reported_laws, rules)

pub returns : goal.returns
returns c = search (reported_laws, rules)

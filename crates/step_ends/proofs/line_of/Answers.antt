-- Written by tools/proof-answers from proofs.map.
use Rattle.std.proofs.Common.{rules}
use Rattle.step_ends.specs.Steps.Code.{line_laws}
use Rattle.step_ends.proofs.line_of.Goals as goal

pub returns-then-reference-names : goal.returns-then-reference-names
returns-then-reference-names c = search (line_laws, rules)

pub returns-then-reference-names-2 : goal.returns-then-reference-names-2
returns-then-reference-names-2 c = search (line_laws, rules)

pub returns-then-reference-names-3 : goal.returns-then-reference-names-3
returns-then-reference-names-3 c = search (line_laws, rules)

pub returns : goal.returns
returns c = search (line_laws, rules)

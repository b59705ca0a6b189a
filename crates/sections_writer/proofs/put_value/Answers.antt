-- Written by tools/proof-answers from proofs.map.
use Rattle.std.proofs.Common.{rules}
use Rattle.sections_writer.specs.Writer.Turn.{value_laws}
use Rattle.sections_writer.proofs.put_value.Goals as goal

pub returns-then-kind-le4 : goal.returns-then-kind-le4
returns-then-kind-le4 c = search (value_laws, rules)

pub returns-then-kind-eq5 : goal.returns-then-kind-eq5
returns-then-kind-eq5 c = search (value_laws, rules)

pub returns : goal.returns
returns c = search (value_laws, rules)

-- Written by tools/proof-answers from proofs.map.
use Rattle.std.proofs.Common.{rules}
use Rattle.step_ends.specs.Steps.Code.{value_laws}
use Rattle.step_ends.proofs.see_value.Goals as goal

pub show-requires : goal.show-requires
show-requires c = search (value_laws, rules)

pub returns-then-suits : goal.returns-then-suits
returns-then-suits c = search (value_laws, rules)

pub returns : goal.returns
returns c = search (value_laws, rules)

-- Written by tools/proof-answers from proofs.map.
use Rattle.std.proofs.Common.{rules}
use Rattle.values.specs.Value.Laws.{number_laws}
use Rattle.values.proofs.number.Goals as goal

pub returns-in-Ok : goal.returns-in-Ok
returns-in-Ok c = search (number_laws, rules)

pub returns-in-Err-Short : goal.returns-in-Err-Short
returns-in-Err-Short c = search (number_laws, rules)

pub returns-in-Err-Large : goal.returns-in-Err-Large
returns-in-Err-Large c = search (number_laws, rules)

-- Written by tools/proof-answers from proofs.map.
use Rattle.std.proofs.Common.{rules}
use Rattle.states.specs.Letters.Laws.{table_laws}
use Rattle.states.proofs.std_logic.Goals as goal

pub returns : goal.returns
returns c = search (table_laws, rules)

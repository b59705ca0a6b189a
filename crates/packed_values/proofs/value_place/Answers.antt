-- Written by tools/proof-answers from proofs.map.
use Rattle.std.proofs.Common.{rules}
use Rattle.states.specs.Packed.Laws.{kind_laws}
use Rattle.packed_values.proofs.value_place.Goals as goal

pub returns-in-Two : goal.returns-in-Two
returns-in-Two c = search (kind_laws, rules)

pub returns-in-Nine : goal.returns-in-Nine
returns-in-Nine c = search (kind_laws, rules)

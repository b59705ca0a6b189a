-- Written by tools/proof-answers from proofs.map.
use Rattle.std.proofs.Common.{rules}
use Rattle.states.specs.Packed.Laws.{set_laws}
use Rattle.packed_values.proofs.set_value.Goals as goal

pub returns-in-Two : goal.returns-in-Two
returns-in-Two c = search (set_laws, rules)

pub returns-in-Nine : goal.returns-in-Nine
returns-in-Nine c = search (set_laws, rules)

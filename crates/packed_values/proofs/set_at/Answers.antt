-- Written by tools/proof-answers from proofs.map.
use Rattle.std.proofs.Common.{rules}
use Rattle.states.specs.Packed.Laws.{field_laws}
use Rattle.packed_values.proofs.set_at.Goals as goal

pub returns : goal.returns
returns c = search (field_laws, rules)

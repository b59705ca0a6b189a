-- Written by tools/proof-answers from proofs.map.
use Rattle.std.proofs.Common.{rules}
use Rattle.states.specs.Packed.Laws.{place_laws}
use Rattle.packed_values.proofs.get_value.Goals as goal

pub get_at-requires : goal.get_at-requires
get_at-requires c = search (place_laws, rules)

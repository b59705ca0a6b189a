-- Written by tools/proof-answers from proofs.map.
use Rattle.std.proofs.Common.{rules}
use Rattle.vecmarks.proofs.Info.Laws.{field_laws}
use Rattle.vecmarks.proofs.get_value.Goals as goal

pub get_value-requires : goal.get_value-requires
get_value-requires c = search (field_laws, rules)

pub returns : goal.returns
returns c = search (field_laws, rules)

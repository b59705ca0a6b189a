-- Written by tools/proof-answers from proofs.map.
use Rattle.std.proofs.Common.{rules}
use Rattle.vecmarks.proofs.Info.Laws.{field_laws}
use Rattle.vecmarks.proofs.is_second_change.Goals as goal

pub returns-then-has_bit_changed : goal.returns-then-has_bit_changed
returns-then-has_bit_changed c = search (field_laws, rules)

pub returns-else-has_bit_changed : goal.returns-else-has_bit_changed
returns-else-has_bit_changed c = search (field_laws, rules)

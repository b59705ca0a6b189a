-- Written by tools/proof-answers from proofs.map.
use Rattle.std.proofs.Common.{rules}
use Rattle.vecmarks.proofs.Info.Laws.{field_laws, quiet_laws}
use Rattle.vecmarks.proofs.is_quiet.Goals as goal

pub returns-then-not-has_signal_changed : goal.returns-then-not-has_signal_changed
returns-then-not-has_signal_changed c = search (field_laws, quiet_laws, rules)

pub returns-then-not-has_bit_changed : goal.returns-then-not-has_bit_changed
returns-then-not-has_bit_changed c = search (field_laws, quiet_laws, rules)

pub returns : goal.returns
returns c = search (field_laws, quiet_laws, rules)

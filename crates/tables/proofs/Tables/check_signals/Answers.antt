use Rattle.std.proofs.Common.{rules}
use Rattle.tables.specs.Checks.Loops.{pass_laws}
use Rattle.tables.proofs.Tables.check_signals.Goals as goal

pub returns-then-not-good_signal : goal.returns-then-not-good_signal
returns-then-not-good_signal c = search (pass_laws, rules)

pub returns : goal.returns
returns c = search (pass_laws, rules)

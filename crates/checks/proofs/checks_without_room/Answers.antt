use Rattle.std.proofs.Common.{rules}
use Rattle.checks.specs.Checked.{checked_laws}
use Rattle.checks.proofs.checks_without_room.Goals as goal

pub returns-then-number : goal.returns-then-number
returns-then-number c = search (checked_laws, rules)

pub returns-in-Ok : goal.returns-in-Ok
returns-in-Ok c = search (checked_laws, rules)

pub returns-else-number : goal.returns-else-number
returns-else-number c = search (checked_laws, rules)

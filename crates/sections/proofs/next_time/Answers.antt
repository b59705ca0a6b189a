-- Written by tools/proof-answers from proofs.map.
use Rattle.std.proofs.Common.{rules}
use Rattle.sections.specs.Item.Code.{to_laws}
use Rattle.slices.specs.Exit.{exit_err}
use Rattle.sections.proofs.next_time.Goals as goal

pub returns-in_err-d : goal.returns-in_err-d
returns-in_err-d c = let was = c.in_err-d.was in search (to_laws, exit_err c.from_residual.ensures.1, rules)

pub returns-then-d-ge9223372036854775808 : goal.returns-then-d-ge9223372036854775808
returns-then-d-ge9223372036854775808 c = search (to_laws, rules)

pub returns-then-d-u : goal.returns-then-d-u
returns-then-d-u c = search (to_laws, rules)

pub returns-else-d-u : goal.returns-else-d-u
returns-else-d-u c = search (to_laws, rules)

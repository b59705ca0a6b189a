-- Written by tools/proof-answers from proofs.map.
use Rattle.std.proofs.Common.{rules}
use Rattle.sections.specs.Item.Code.{in_laws}
use Rattle.slices.specs.Exit.{exit_err}
use Rattle.sections.proofs.next_id.Goals as goal

pub returns-in_err-d : goal.returns-in_err-d
returns-in_err-d c = let was = c.in_err-d.was in search (in_laws, exit_err c.from_residual.ensures.1, rules)

pub returns-then-d-eq0 : goal.returns-then-d-eq0
returns-then-d-eq0 c = search (in_laws, rules)

pub returns-then-d-kinds : goal.returns-then-d-kinds
returns-then-d-kinds c = search (in_laws, rules)

pub returns-else-d-kinds : goal.returns-else-d-kinds
returns-else-d-kinds c = search (in_laws, rules)

-- Written by tools/proof-answers from proofs.map.
use Rattle.std.proofs.Common.{rules}
use Rattle.quiet_changes.specs.Along.Code.{delta_laws}
use Rattle.quiet_changes.proofs.short_delta.Goals as goal

pub returns-then-d-eq0 : goal.returns-then-d-eq0
returns-then-d-eq0 c = search (delta_laws, rules)

pub returns-then-d-ge128 : goal.returns-then-d-ge128
returns-then-d-ge128 c = search (delta_laws, rules)

pub returns : goal.returns
returns c = search (delta_laws, rules)

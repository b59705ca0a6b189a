-- Written by tools/proof-answers from proofs.map.
use Rattle.std.proofs.Common.{rules}
use Rattle.tables.specs.Checks.Loops.{test_laws}
use Rattle.tables.proofs.unless.Goals as goal

pub returns-then-good : goal.returns-then-good
returns-then-good c = search (test_laws, rules)

pub returns-else-good : goal.returns-else-good
returns-else-good c = search (test_laws, rules)

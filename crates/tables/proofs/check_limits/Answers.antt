-- Written by tools/proof-answers from proofs.map.
use Rattle.std.proofs.Common.{rules}
use Rattle.tables.specs.Checks.Loops.{test_laws}
use Rattle.tables.proofs.check_limits.Goals as goal

pub returns : goal.returns
returns c = search (test_laws, rules)

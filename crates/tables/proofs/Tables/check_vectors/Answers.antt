use Rattle.std.proofs.Common.{rules}
use Rattle.tables.specs.Checks.Loops.{pass_laws}
use Rattle.tables.proofs.Tables.check_vectors.Goals as goal

pub returns-then-not-good_vector : goal.returns-then-not-good_vector
returns-then-not-good_vector c = search (pass_laws, rules)

pub returns : goal.returns
returns c = search (pass_laws, rules)

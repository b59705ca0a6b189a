use Rattle.std.proofs.Common.{rules}
use Rattle.tables.specs.Checks.Loops.{test_laws}
use Rattle.tables.proofs.Tables.good_vector.Goals as goal

pub returns : goal.returns
returns c = rw (← c.self.view_is) (search (test_laws, rules))

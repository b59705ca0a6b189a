use Rattle.std.proofs.Common.{rules}
use Rattle.tables.specs.Checks.Loops.{test_laws}
use Rattle.tables.proofs.Tables.suits.Goals.{then-number-lt1-via-then-number-lt1, then-number-lt1-via-else-number-lt1+then-self-number}
use Rattle.tables.proofs.Tables.suits.Goals as goal

pub returns-then-number-lt1 : goal.returns-then-number-lt1
returns-then-number-lt1 c =
    rw (← c.self.view_is)
    (elim c.then-number-lt1.branch [
      | then-number-lt1-via-then-number-lt1 w ↦ search (test_laws, rules)
      | then-number-lt1-via-else-number-lt1+then-self-number w ↦ search (test_laws, rules)
    ])

pub returns : goal.returns
returns c = rw (← c.self.view_is) (search (test_laws, rules))

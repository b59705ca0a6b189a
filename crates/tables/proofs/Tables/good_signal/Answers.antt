use Rattle.std.proofs.Common.{rules, ◌∙◌}
use Rattle.tables.specs.Checks.Loops.{test_laws}
use Rattle.tables.proofs.Tables.good_signal.Goals.{in-1, in-3, in_default}
use Rattle.tables.proofs.Tables.good_signal.Goals as goal

pub returns : goal.returns
returns c =
    elim c.match-kind.branch [
      | in-1 w ↦ let e = rw (← c.self.view_is) at (w.result-is ∙ w.suits.ensures) in rw (← c.self.view_is) (search (test_laws, rules))
      | in-3 w ↦ let e = rw (← c.self.view_is) at (w.result-is ∙ w.suits-in-3.ensures) in rw (← c.self.view_is) (search (test_laws, rules))
      | in_default w ↦ rw (w.result-is, ← c.self.view_is) (search (test_laws, rules))
    ]

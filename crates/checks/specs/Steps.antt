-- What a check that passed says to the ones after it.
-- Assumes nothing.
use Rattle.std.specs.Prelude.{◌≡◌, Ok}
use Rattle.std.proofs.Common.{sym, ◌∙◌}
use Rattle.tables.specs.Lists.{Lists}
use Rattle.tables.specs.Checks.{check2, check3, check5}
use Rattle.tables.specs.Check.{Check, Passed}
use Rattle.tables.specs.Good.{Sized, Ranged, Named}
use Rattle.tables.specs.Good.Laws.{sized, ranged, named}

passed : {found : Check} {u : Unit {0}} → found ≡ Ok u → found ≡ Passed
passed {u = tt} p = p

module _ {t : Lists} {found : Check} {u : Unit {0}} (p : found ≡ Ok u) where
  pub now_sized : found ≡ check2 t → Sized t
  now_sized e = sized t (sym e ∙ passed p)

  pub now_ranged : found ≡ check3 t → Ranged t
  now_ranged e = ranged t (sym e ∙ passed p)

  pub now_named : found ≡ check5 t → Sized t → Ranged t → Named t
  now_named e z g = named t z g (sym e ∙ passed p)

pub ruleset step_laws = (now_sized, now_ranged, now_named)

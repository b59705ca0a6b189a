-- How a check ends.
-- Assumes nothing.
use Rattle.std.specs.Prelude.{ℕ, Result, Ok, Err}
use Rattle.refusals.specs.Numbers.{Numbered}

abbrev pub Check : Type 0
Check = Result Unit Numbered

pattern abbrev pub Passed : Check
Passed = Ok tt

pattern abbrev pub Refused : ℕ → ℕ → Check
Refused number place = Err (number, place)

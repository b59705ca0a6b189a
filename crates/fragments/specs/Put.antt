-- How many bytes have been written, or a refusal.
-- Assumes nothing.
use Rattle.std.specs.Prelude.{ℕ, Result, Ok, Err}
use Rattle.refusals.specs.Numbers.{Numbered}

abbrev pub Put : Type 0
Put = Result ℕ Numbered

pattern abbrev pub Next : ℕ → Put
Next count = Ok count

pattern abbrev pub Refused : ℕ → ℕ → Put
Refused number place = Err (number, place)

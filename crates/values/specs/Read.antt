-- What a reader finds.
-- Assumes nothing.
use Rattle.std.specs.Prelude.{ℕ, Result, Ok, Err}
use Rattle.refusals.specs.Numbers.{Numbered}

-- what was read and the place after it, or a refusal
abbrev pub Read : Type 0
Read = Result (ℕ × ℕ) Numbered

pattern abbrev pub Value : ℕ → ℕ → Read
Value v next = Ok (v, next)

pattern abbrev pub Bad : ℕ → ℕ → Read
Bad number place = Err (number, place)

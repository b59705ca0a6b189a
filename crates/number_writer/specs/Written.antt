-- How a call that fills one output ends.
-- Assumes nothing.
use Rattle.std.specs.Prelude.{ℕ, Result, Ok, Err}
use Rattle.refusals.specs.Numbers.{Numbered}
use Rattle.number_writer.specs.declared.Done as filled

abbrev pub Written : Type 0
Written = Result filled.Done Numbered

-- so many bytes read and written, and steps counted
abbrev pub Done : (read count steps : ℕ) → Written
Done read count steps = Ok (record { read = read; count = count; steps = steps })

pattern abbrev pub Refused : ℕ → ℕ → Written
Refused number place = Err (number, place)

-- What a preamble says.
-- Assumes nothing.
use Rattle.std.specs.Prelude.{ℕ, Bool, Result, Ok, Err}
use Rattle.refusals.specs.Numbers.{Numbered}
use Rattle.preamble.specs.declared.Opened as told

abbrev pub OpenedFound : Type 0
OpenedFound = Result told.Opened Numbered

-- so many signals and vectors, the flag, and the place of the first section byte
abbrev pub Sections : (signals vectors : ℕ) → Bool → ℕ → OpenedFound
Sections signals vectors flag at = Ok (record { signals = signals; vectors = vectors; big_endian = flag; at = at })

pattern abbrev pub Refused : ℕ → ℕ → OpenedFound
Refused number place = Err (number, place)

-- What a record of the stream brings.
-- Assumes nothing.
use Rattle.std.specs.Prelude.{ℕ, Result, Ok, Err}
use Rattle.refusals.specs.Numbers.{Numbered}
use Rattle.step_ends.specs.declared.Watch.{Watch}
use Rattle.step_ends.specs.declared.Seen.{Seen}
use Rattle.step_ends.specs.declared.Seen.TheVariants as seen

abbrev pub SeenFound : Type 0
SeenFound = Result Seen Numbered

pattern abbrev pub More : Watch → ℕ → SeenFound
More shown next = Ok (seen.More shown next)

pattern abbrev pub Step : Watch → ℕ → SeenFound
Step opened next = Ok (seen.Step opened next)

pattern abbrev pub End : SeenFound
End = Ok seen.End

pattern abbrev pub Bad : ℕ → ℕ → SeenFound
Bad number place = Err (number, place)

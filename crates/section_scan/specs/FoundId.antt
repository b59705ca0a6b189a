-- The next id of a change list.
-- Assumes nothing.
use Rattle.std.specs.Prelude.{ℕ, Result, Ok, Err}
use Rattle.refusals.specs.Numbers.{Numbered}
use Rattle.section_scan.specs.declared.NextId.{NextId}
use Rattle.section_scan.specs.declared.NextId.TheVariants as next

-- the id and the place after its delta, or the list's end, or a refusal
abbrev pub FoundId : Type 0
FoundId = Result NextId Numbered

pattern abbrev pub Id : ℕ → ℕ → FoundId
Id id place = Ok (next.Id id place)

pattern abbrev pub End : ℕ → FoundId
End place = Ok (next.End place)

pattern abbrev pub Bad : ℕ → ℕ → FoundId
Bad number place = Err (number, place)

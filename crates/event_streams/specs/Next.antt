-- What stands at a place of an event stream.
-- Assumes nothing.
use Rattle.std.specs.Prelude.{ℕ, Result, Ok, Err, Option, Some, None}
use Rattle.refusals.specs.Numbers.{Numbered}
use Rattle.records.specs.declared.Record.{Record}

-- a record and the place after it, or the stream's end, or a refusal
abbrev pub Next : Type 0
Next = Result (Option (Record × ℕ)) Numbered

pattern abbrev pub Event : Record → ℕ → Next
Event event next = Ok (Some (event, next))

pattern abbrev pub End : Next
End = Ok None

pattern abbrev pub Bad : ℕ → ℕ → Next
Bad number place = Err (number, place)

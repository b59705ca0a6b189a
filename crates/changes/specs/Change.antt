-- What stands at a place of change records.
-- Assumes nothing.
use Rattle.std.specs.Prelude.{ℕ, Result, Ok, Err}
use Rattle.refusals.specs.Numbers.{Numbered}
use Rattle.changes.specs.declared.Change.{Change}
use Rattle.changes.specs.declared.Change.TheVariants as change

-- a record and the place after it, or the input's end between steps, or a refusal
abbrev pub ChangeFound : Type 0
ChangeFound = Result Change Numbered

pattern abbrev pub Time : (time next : ℕ) → ChangeFound
Time time next = Ok (change.Time time next)

pattern abbrev pub Write : (id value next : ℕ) → ChangeFound
Write id value next = Ok (change.Write id value next)

pattern abbrev pub StepEnd : ℕ → ChangeFound
StepEnd next = Ok (change.StepEnd next)

pattern abbrev pub End : ℕ → ChangeFound
End place = Ok (change.End place)

pattern abbrev pub Bad : ℕ → ℕ → ChangeFound
Bad number place = Err (number, place)

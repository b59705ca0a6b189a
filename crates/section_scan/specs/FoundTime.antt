-- The next time of a cycle.
-- Assumes nothing.
use Rattle.std.specs.Prelude.{ℕ, Result, Ok, Err}
use Rattle.refusals.specs.Numbers.{Numbered}
use Rattle.section_scan.specs.declared.NextTime.{NextTime}
use Rattle.section_scan.specs.declared.NextTime.TheVariants as next

-- the time and the place after its delta, or the cycle's end, or a refusal
abbrev pub FoundTime : Type 0
FoundTime = Result NextTime Numbered

pattern abbrev pub Time : ℕ → ℕ → FoundTime
Time time place = Ok (next.Time time place)

pattern abbrev pub End : ℕ → FoundTime
End place = Ok (next.End place)

pattern abbrev pub Bad : ℕ → ℕ → FoundTime
Bad number place = Err (number, place)

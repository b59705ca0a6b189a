-- What reading a number finds.
-- Assumes nothing.
use Rattle.std.specs.Prelude.{ℕ, Result, Ok, Err}
use Rattle.leb128.specs.declared.LebError.{LebError}
use Rattle.leb128.specs.declared.LebError.TheVariants as error
use Rattle.leb128.specs.declared.Run.{Run}
use Rattle.leb128.specs.declared.Run.TheVariants as run

-- the number and the place after it
abbrev pub Leb : Type 0
Leb = Result (ℕ × ℕ) LebError

pattern abbrev pub Value : ℕ → ℕ → Leb
Value n next = Ok (n, next)

-- the input ends inside it
pattern abbrev pub Short : Leb
Short = Err error.Short

-- it does not fit 64 bits, or has more than ten bytes
pattern abbrev pub Large : Leb
Large = Err error.Large

-- what the first nine bytes tell
abbrev pub Started : Type 0
Started = Result Run LebError

pattern abbrev pub Ended : (sum power last next : ℕ) → Started
Ended sum power last next = Ok (run.Ended sum power last next)

pattern abbrev pub Open : (sum tenth : ℕ) → Started
Open sum tenth = Ok (run.Open sum tenth)

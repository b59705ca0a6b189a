-- What stands at a place of the preamble.
-- Assumes nothing.
use Rattle.std.specs.Prelude.{ℕ, Bool, Result, Ok, Err}
use Rattle.refusals.specs.Numbers.{Numbered}
use Rattle.preamble.specs.declared.Item.{Item}
use Rattle.preamble.specs.declared.Item.TheVariants as item

-- a record and the place after it, or a refusal
abbrev pub ItemFound : Type 0
ItemFound = Result Item Numbered

pattern abbrev pub Signal : (kind reference vector next : ℕ) → ItemFound
Signal kind reference vector next = Ok (item.Signal kind reference vector next)

pattern abbrev pub Vector : (min max state reference next : ℕ) → ItemFound
Vector min max state reference next = Ok (item.Vector min max state reference next)

pattern abbrev pub Sections : Bool → ℕ → ItemFound
Sections flag next = Ok (item.Sections flag next)

pattern abbrev pub Refused : ℕ → ℕ → ItemFound
Refused number place = Err (number, place)

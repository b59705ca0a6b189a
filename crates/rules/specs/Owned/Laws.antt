-- What demand 3 says of a place in a history: an event comes first.
-- Assumes nothing.
use Rattle.std.specs.Prelude.{◌≡◌, ℕ}
use mathlib.Core.List.{List, ◌∷◌, ◌++◌}
use Rattle.rules.specs.Vector.{Cause, Item, shown}
use Rattle.rules.specs.History.{is_closing, Without}

-- ---- what it says of a place in a history: `a` stands before the place, `b` behind it

-- an event comes, with no other event and no step's end before it
abbrev pub EventFirst : List Item → Type 0
EventFirst b = (m : List Item) × (c : Cause) × (l : List ℕ) × (rest : List Item) × (b ≡ m ++ shown c l ∷ rest) × Without is_closing m

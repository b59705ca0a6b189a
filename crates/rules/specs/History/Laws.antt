-- Places in a history: its first event, and a write that waits for one.
-- Assumes nothing.
use Rattle.std.specs.Prelude.{◌≡◌, ℕ}
use mathlib.Core.List.{List, ◌∷◌, ◌++◌}
use Rattle.rules.specs.Vector.{Write, Cause, Item, wrote, shown, history}
use Rattle.rules.specs.History.{is_event, Without}

-- the event behind `m` is the first of a history
abbrev pub IsFirst : List Item → List Item → Cause → List ℕ → List Item → Type 0
IsFirst h m c l rest = (h ≡ m ++ shown c l ∷ rest) × Without is_event m

-- ---- what waits, in words

-- a write that no event followed
abbrev pub Waits : Write → List Item → Type 0
Waits x h = (a : List Item) × (m : List Item) × (h ≡ a ++ wrote x ∷ m) × Without is_event m

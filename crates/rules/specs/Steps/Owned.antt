-- A vector's history of some acts.
-- Assumes nothing.
use Rattle.std.specs.Prelude.{Bool, List, ℕ}
use Rattle.rules.specs.Vector.{Item}
use Rattle.rules.specs.Gather.{Tables, Act, begin, happens, own}

-- a vector's history: its part of what happens
abbrev pub history_of : (ℕ → Bool) → Tables → List Act → ℕ → List Item
history_of early t acts v = own v (happens early t (begin t) acts)

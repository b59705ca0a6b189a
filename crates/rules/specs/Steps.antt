-- Whole steps, one after the other: a time "opens a step", writes follow, a "step end" closes it. "Input ends only between steps; empty input is good."
-- Assumes nothing.
use Rattle.std.specs.Prelude.{Bool, true, false, List, [], ◌∷◌}
use Rattle.rules.specs.Gather.{Act, time, write, step_end}
pub mod Laws
pub mod Owned
pub mod Ends

-- from between steps (false) or from inside one (true)
unfoldable pub Steps : Bool → List Act → Type 0
Steps false [] = Unit {0}
Steps false (time u ∷ acts) = Steps true acts
Steps false (write i x p ∷ acts) = ⊥
Steps false (step_end ∷ acts) = ⊥
Steps true [] = ⊥
Steps true (time u ∷ acts) = ⊥
Steps true (write i x p ∷ acts) = Steps true acts
Steps true (step_end ∷ acts) = Steps false acts

-- whole steps and nothing else
abbrev pub Stepped : List Act → Type 0
Stepped acts = Steps false acts

-- the writes of one step
unfoldable pub Writes : List Act → Type 0
Writes [] = Unit {0}
Writes (time u ∷ acts) = ⊥
Writes (write i x p ∷ acts) = Writes acts
Writes (step_end ∷ acts) = ⊥

-- A step of whole steps.
-- Assumes nothing.
use Rattle.std.specs.Prelude.{◌≡◌, List, ◌∷◌, ◌++◌, ℕ}
use Rattle.rules.specs.Gather.{Act, time, step_end}
use Rattle.rules.specs.Steps.{Writes}

-- a step of some acts: its time u and its writes ws, behind `earlier` and before `rest`
abbrev pub StepOf : List Act → List Act → ℕ → List Act → List Act → Type 0
StepOf acts earlier u ws rest = (acts ≡ earlier ++ time u ∷ (ws ++ step_end ∷ rest)) × Writes ws

-- Whole steps in words: the first of them, their end, and the end of each.
-- Assumes nothing.
use Rattle.std.specs.Prelude.{ℕ, ◌≡◌, Bool, List, [], ◌∷◌, ◌++◌}
use Rattle.rules.specs.Gather.{Act, time, step_end}
use Rattle.rules.specs.Steps.{Steps, Stepped, Writes}

-- they begin with a step, and whole steps follow
abbrev pub StepFirst : List Act → Type 0
StepFirst acts = (u : ℕ) × (ws : List Act) × (rest : List Act) × (acts ≡ time u ∷ (ws ++ step_end ∷ rest)) × Writes ws × Stepped rest

-- they are none, or end with a step's end
abbrev pub EndsStep : List Act → Type 0
EndsStep acts = (a : List Act) × (acts ≡ a ++ step_end ∷ [])

-- every step's end has its time before it, with nothing but writes between the two, and whole steps before that
abbrev pub EndOfStep : Bool → List Act → List Act → Type 0
EndOfStep open? a b = (earlier : List Act) × (u : ℕ) × (ws : List Act) × (a ≡ earlier ++ time u ∷ ws) × Steps open? earlier × Writes ws × Stepped b

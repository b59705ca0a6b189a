-- The step's end in words: the vectors with marks, their events, and the order of the vectors' first writes in the step.
-- Assumes nothing.
use Rattle.std.specs.Prelude.{Bool, cond, ℕ, zero, suc}
use mathlib.Core.List.{List, [], ◌∷◌, ◌++◌, map}
use Rattle.rules.specs.Vector.{ended, began, wrote, shown, over, Vec, any}
use Rattle.rules.specs.Gather.{Tables, Act, time, write, step_end, Happening, at, single, of, ends, State, happens}
use Rattle.rules.specs.Gather.Laws.{state_after}

-- ---- the events of a step's end

-- the event that a vector makes at a step's end
unfoldable pub end_event : (ℕ → Vec) → ℕ → Happening
end_event vecs v = of v (shown ended (vecs v).vals)

-- those that have marks
unfoldable pub marked : (ℕ → Vec) → List ℕ → List ℕ
marked vecs [] = []
marked vecs (v ∷ vs) = cond (any (vecs v).marks) (v ∷ marked vecs vs) (marked vecs vs)

-- the events of those of a list that have marks, in its order
abbrev pub end_events : (ℕ → Vec) → List ℕ → List Happening
end_events vecs vs = map (end_event vecs) (marked vecs vs)

-- the vectors of the events among what happens, in order
unfoldable pub labels : List Happening → List ℕ
labels [] = []
labels (at u ∷ h) = labels h
labels (single i x p ∷ h) = labels h
labels (of v (began u) ∷ h) = labels h
labels (of v (wrote x) ∷ h) = labels h
labels (of v (shown c l) ∷ h) = v ∷ labels h
labels (of v over ∷ h) = labels h
labels (ends ∷ h) = labels h

-- ---- the order of first writes

-- the vectors that writes go to, in order
unfoldable pub named : ℕ → List ℕ → List ℕ
named zero vs = vs
named (suc v) vs = v ∷ vs

unfoldable pub written : Tables → List Act → List ℕ
written t [] = []
written t (time u ∷ acts) = written t acts
written t (write i x p ∷ acts) = named (t.vector i) (written t acts)
written t (step_end ∷ acts) = written t acts

-- ---- the two together

-- where a step stands before its end: whole steps, then its time and its writes
abbrev pub before_end : (ℕ → Bool) → Tables → State → List Act → ℕ → List Act → State
before_end early t s earlier u ws = state_after early t s (earlier ++ time u ∷ ws)

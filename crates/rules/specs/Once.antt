-- Inputs whose ids rise within a list, and what such a vector's history is: no event by rule (a), and at most one in a step.
-- Assumes nothing.
use Rattle.std.specs.Prelude.{◌≡◌, Bool, List, [], ◌∷◌, ◌≢◌, ℕ, ◌-◌, ◌<◌}
use Rattle.std.proofs.Math.Bool.{true, false}
use Rattle.rules.specs.Vector.{Op, start, put, stop, rewritten, Item, began, wrote, shown, over}
use Rattle.rules.specs.Gather.{Act, time, write, step_end, elem}

-- ---- no bit twice in a step

-- no bit is written twice in one step; `seen` are the bits written in this one
unfoldable pub Once : List ℕ → List Op → Type 0
Once seen [] = Unit {0}
Once seen (start t ∷ ops) = Once seen ops
Once seen (put x ∷ ops) = (elem x.bit seen ≡ false) × Once (x.bit ∷ seen) ops
Once seen (stop ∷ ops) = Once [] ops

-- "ids rise within a list": each write's id is above the last one's, from 0 in every step
unfoldable pub Rising : ℕ → List Act → Type 0
Rising n [] = Unit {0}
Rising n (time u ∷ acts) = Rising n acts
Rising n (write i x p ∷ acts) = (n < i) × Rising i acts
Rising n (step_end ∷ acts) = Rising 0 acts

-- no event is made by rule (a), and a step has at most one; `had` says that this step has one already
unfoldable pub Single : Bool → List Item → Type 0
Single had [] = Unit {0}
Single had (began t ∷ h) = Single had h
Single had (wrote x ∷ h) = Single had h
Single had (shown c v ∷ h) = (had ≡ false) × (c ≢ rewritten) × Single true h
Single had (over ∷ h) = Single false h

-- Every value that a vector stores fits its field, where every value that is written to a signal of kind 1 or 3
-- is in its kind's range.
-- Assumes nothing.
use Prim.Native.Nat.{ℕ, ◌-◌, ◌≤◌, ◌<◌}
use Rattle.std.specs.Prelude.{◌≡◌}
use mathlib.Core.List.{List, [], ◌∷◌}
use Rattle.std.proofs.Math.ListN.{get_or}
use Rattle.tables.specs.Lists.{Lists, nth}
use Rattle.values.specs.Value.{most_of}
use Rattle.rules.specs.Vector.{Op, start, put, stop, Item, began, wrote, shown, over}
use Rattle.rules.specs.Gather.{Act, time, write, step_end}

-- ---- one vector

-- every written value is below m, and so is every shown one
unfoldable pub SmallOps : ℕ → List Op → Type 0
SmallOps m [] = Unit {0}
SmallOps m (start u ∷ ops) = SmallOps m ops
SmallOps m (put x ∷ ops) = (x.value < m) × SmallOps m ops
SmallOps m (stop ∷ ops) = SmallOps m ops

unfoldable pub SmallItems : ℕ → List Item → Type 0
SmallItems m [] = Unit {0}
SmallItems m (began u ∷ h) = SmallItems m h
SmallItems m (wrote x ∷ h) = SmallItems m h
SmallItems m (shown c l ∷ h) = ((k : ℕ) → get_or l k 0 < m) × SmallItems m h
SmallItems m (over ∷ h) = SmallItems m h

-- ---- the tables

-- every value that is written to a signal of this kind is in the kind's range
unfoldable pub Fitting : Lists → ℕ → List Act → Type 0
Fitting t kind [] = Unit {0}
Fitting t kind (time u ∷ acts) = Fitting t kind acts
Fitting t kind (write i x p ∷ acts) = (nth t.kinds i ≡ kind → x ≤ most_of kind) × Fitting t kind acts
Fitting t kind (step_end ∷ acts) = Fitting t kind acts

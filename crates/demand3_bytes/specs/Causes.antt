-- Where events are made: one by rule (a) right before a write of its vector, one by rule (c) right behind one,
-- one at a step's end with nothing but events up to that end.
-- Assumes nothing.
use Prim.Native.Nat.{ℕ}
use Rattle.std.specs.Prelude.{◌≡◌}
use Rattle.std.proofs.Math.Option.{Option, none, some}
use mathlib.Core.List.{List, [], ◌∷◌}
use Rattle.rules.specs.Vector.{Write, rewritten, complete, ended, began, wrote, shown, over}
use Rattle.rules.specs.Gather.{write, Happening, at, single, of, ends}

-- nothing but events up to a step's end
unfoldable pub UntilEnd : List Happening → Type 0
UntilEnd [] = ⊥
UntilEnd (at u ∷ h) = ⊥
UntilEnd (single i x p ∷ h) = ⊥
UntilEnd (of v (began u) ∷ h) = ⊥
UntilEnd (of v (wrote x) ∷ h) = ⊥
UntilEnd (of v (shown c l) ∷ h) = UntilEnd h
UntilEnd (of v over ∷ h) = ⊥
UntilEnd (ends ∷ h) = Unit {0}

-- a write of the vector comes next
abbrev pub Next : ℕ → List Happening → Type 0
Next v h = (x : Write) × (rest : List Happening) × (h ≡ of v (wrote x) ∷ rest)

-- `q` is the vector that was written right before
unfoldable pub Prompt : Option ℕ → List Happening → Type 0
Prompt q [] = Unit {0}
Prompt q (at u ∷ h) = Prompt none h
Prompt q (single i x p ∷ h) = Prompt none h
Prompt q (of v (began u) ∷ h) = Prompt none h
Prompt q (of v (wrote x) ∷ h) = Prompt (some v) h
Prompt q (of v (shown rewritten l) ∷ h) = Next v h × Prompt none h
Prompt q (of v (shown complete l) ∷ h) = (q ≡ some v) × Prompt none h
Prompt q (of v (shown ended l) ∷ h) = UntilEnd h × Prompt none h
Prompt q (of v over ∷ h) = Prompt none h
Prompt q (ends ∷ h) = Prompt none h

-- Why an event was made, of one vector's history.
-- An event owns a write where it is the first event after it: `Waits x a` says that no event followed the write x in `a`.
-- Assumes nothing.
use Rattle.std.specs.Prelude.{◌≡◌, ◌≢◌, Bool, ℕ, ◌<◌, T}
use mathlib.Core.List.{List, ◌∷◌}
use Rattle.rules.specs.Vector.{Write, Item, wrote, over}
use Rattle.rules.specs.History.Laws.{Waits}

-- ---- why an event was made

abbrev pub ByRewrite : List Item → List Item → Type 0
ByRewrite a b = (x : Write) × (rest : List Item) × (y : Write) × (b ≡ wrote x ∷ rest) × Waits y a × (y.bit ≡ x.bit) × (y.value ≢ x.value)

abbrev pub ByCompletion : Bool → ℕ → List Item → Type 0
ByCompletion early w a = T early × ((k : ℕ) → k < w → (x : Write) × Waits x a × (x.bit ≡ k))

abbrev pub ByEnd : List Item → Type 0
ByEnd b = (rest : List Item) × (b ≡ over ∷ rest)

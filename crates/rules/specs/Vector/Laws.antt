-- A vector of a width, and the vector after some operations.
-- Assumes nothing.
use Rattle.std.specs.Prelude.{◌≡◌, Bool, List, [], ◌∷◌, ℕ, length}
use Rattle.rules.specs.Vector.{Op, Vec, act}

-- ---- the width of a vector, kept by everything that happens to it

unfoldable pub Wide : ℕ → Vec → Type 0
Wide w v = (length v.vals ≡ w) × (length v.marks ≡ w)

-- ---- histories one after the other

unfoldable pub vec_after : Bool → Vec → List Op → Vec
vec_after early v [] = v
vec_after early v (op ∷ ops) = vec_after early (act early v op).1 ops

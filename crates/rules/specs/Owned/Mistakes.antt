-- What histories that demand 3 refuses are said with.
-- Assumes nothing.
use Rattle.std.specs.Prelude.{◌≡◌, Bool, ℕ, replicate}
use mathlib.Core.List.{List, [], ◌∷◌}
use Rattle.rules.specs.Vector.{Write, Op, Item}
use Rattle.rules.specs.History.{heard}
use Rattle.rules.specs.Owned.{Owned}

-- demand 3, with nothing lost of what the vector was told
unfoldable pub Meets : Bool → ℕ → List Op → List Item → Type 0
Meets early w ops h = Owned early w (replicate w 0) [] h × (heard h ≡ ops)

-- bit b is written with x
unfoldable pub on : ℕ → ℕ → Write
on b x = record { bit = b; value = x; pos = 0 }

-- mending rule (c): nine bits, all written, make an event before the step's end
unfoldable pub nines : List Write
nines = on 0 1 ∷ on 1 1 ∷ on 2 1 ∷ on 3 1 ∷ on 4 1 ∷ on 5 1 ∷ on 6 1 ∷ on 7 1 ∷ on 8 1 ∷ []

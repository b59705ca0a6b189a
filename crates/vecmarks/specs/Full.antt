-- Rule (c)'s test, on the mask bytes.
-- Assumes nothing.
use Rattle.std.specs.Prelude.{ℕ, ◌-◌, ◌%◌, ◌^◌, Bool, true, cond, ◌&&◌, List, [], ◌∷◌, eqb, get_or, drop}

-- all bits of all bytes are set
unfoldable pub all_full : List ℕ → Bool
all_full [] = true
all_full (b ∷ bs) = eqb b 255 && all_full bs

-- "`full_signal_has_changed` tests the wrong end of the mask": it takes the first byte for the one that the width does not fill
unfoldable pub full_in : ℕ → List ℕ → Bool
full_in w bs = cond (eqb (w % 8) 0) (all_full bs) (all_full (drop 1 bs) && eqb (get_or bs 0 0) (2 ^ (w % 8) - 1))

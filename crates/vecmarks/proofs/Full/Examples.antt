-- The test of rule (c) on mask bytes: whole and not whole, and "never acts on widths such as 9 or 12".
-- Assumes nothing.
use Rattle.std.specs.Prelude.{◌≡◌, refl, true, false, [], ◌∷◌}
use Rattle.vecmarks.specs.Full.{all_full, full_in}

pub rows :
    (full_in 7 (127 ∷ []) ≡ true)
    × (full_in 7 (63 ∷ []) ≡ false)
    × (full_in 8 (255 ∷ []) ≡ true)
    × (full_in 9 (255 ∷ 1 ∷ []) ≡ false)
    × (full_in 12 (255 ∷ 15 ∷ []) ≡ false)
    × (full_in 16 (255 ∷ 255 ∷ []) ≡ true)
    × (full_in 16 (255 ∷ 127 ∷ []) ≡ false)
unfolding full_in all_full
rows = (refl, refl, refl, refl, refl, refl, refl)

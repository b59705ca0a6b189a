-- Rule (c)'s test of the width.
-- Assumes nothing.
use Rattle.std.specs.Prelude.{◌≡◌, refl, ◌≢◌, true, false, [], ◌∷◌, map, ℕ, ◌%◌, ◌≤◌, ◌<◌, leb}
use Rattle.std.proofs.Math.Bool.{or-true}
use Rattle.std.proofs.Common.{le-leb, eq-eqb, ne_eqb}
use Rattle.std.proofs.lemmas.Bool.{lt-leb}
use Rattle.rules.specs.Vector.{acts_early}

-- "the width is at most 7 or a multiple of 8"
pub early_small : (w : ℕ) → w ≤ 7 → acts_early w ≡ true
unfolding acts_early
early_small w h = rw (le-leb w 7 h)

pub early_eights : (w : ℕ) → w % 8 ≡ 0 → acts_early w ≡ true
unfolding acts_early
early_eights w h = rw (eq-eqb (w % 8) 0 h) (or-true (leb w 7))

-- "Rule (c) never acts on widths such as 9 or 12"
pub never_early : (w : ℕ) → 7 < w → w % 8 ≢ 0 → acts_early w ≡ false
unfolding acts_early
never_early w h n = rw (lt-leb w 7 h, ne_eqb (w % 8) 0 n)

-- each width by itself
pub record Widths : Type 0 where
  pub to_8 : map acts_early (1 ∷ 2 ∷ 3 ∷ 4 ∷ 5 ∷ 6 ∷ 7 ∷ 8 ∷ []) ≡ true ∷ true ∷ true ∷ true ∷ true ∷ true ∷ true ∷ true ∷ []
  pub to_15 : map acts_early (9 ∷ 10 ∷ 11 ∷ 12 ∷ 13 ∷ 14 ∷ 15 ∷ []) ≡ false ∷ false ∷ false ∷ false ∷ false ∷ false ∷ false ∷ []
  pub eights : map acts_early (16 ∷ 17 ∷ 24 ∷ 31 ∷ 32 ∷ 33 ∷ 64 ∷ []) ≡ true ∷ false ∷ true ∷ false ∷ true ∷ false ∷ true ∷ []

pub widths : Widths
unfolding acts_early
widths = record { to_8 = refl; to_15 = refl; eights = refl }

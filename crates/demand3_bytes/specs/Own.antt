-- One vector's part of what happens, item by item, and where in the whole an item of it stands.
-- Assumes nothing.
use Rattle.std.specs.Prelude.{◌≡◌, Bool, true, false, ℕ}
use mathlib.Core.List.{List, ◌∷◌, ◌++◌}
use Rattle.rules.specs.Vector.{Item, began, wrote, shown, over}
use Rattle.rules.specs.Gather.{write, Happening, of, own}

-- ---- where in the whole an item stands

-- a write or an event: an item that no other happening is
unfoldable pub is_inner : Item → Bool
is_inner (began u) = false
is_inner (wrote x) = true
is_inner (shown c l) = true
is_inner over = false

pub record Place (v : ℕ) (h : List Happening) (m : List Item) (i : Item) (rest : List Item) : Type 0 where
  pub before : List Happening
  pub behind : List Happening
  pub split : h ≡ before ++ of v i ∷ behind
  pub front : own v before ≡ m
  pub back : own v behind ≡ rest

-- The numbers: the low 16 bits of each hold where the bytes of the next vector start, and the bits above the vector that is listed there.
-- Assumes nothing.
use Rattle.std.specs.Prelude.{ℕ, zero, suc, ◌+◌, ◌*◌, ◌/◌, ◌%◌, ◌<◌, ◌≤◌, ◌≡◌, List, [], length, get_or, set}
use Rattle.tables.specs.Layout.{Layout, layout_of, start}
pub mod Laws

-- the layout by the three lists that it goes by
unfoldable pub layout_from : (mins maxs states : List ℕ) → Layout
layout_from mins maxs states = layout_of (record { kinds = []; refs = []; vecs = []; mins = mins; maxs = maxs; states = states; vec_refs = [] })

-- what tables that passed their checks give here
pub record Shapes (mins maxs states : List ℕ) : Type 0 where
  pub tops : length maxs ≡ length mins
  pub kinds : length states ≡ length mins
  pub few : length mins ≤ 16383
  pub order : (v : ℕ) → v < length mins → get_or mins v 0 ≤ get_or maxs v 0
  pub small : start (layout_from mins maxs states) (length mins) < 65536

-- where the bytes of vector v start, as the numbers have it
unfoldable pub start_in : List ℕ → ℕ → ℕ
start_in nums zero = 0
start_in nums (suc v) = get_or nums v 0 % 65536

-- the numbers have the starts of all vectors and of the flags
pub record Started (t : Layout) (nums : List ℕ) : Type 0 where
  pub long : t.count ≤ length nums
  pub starts : (v : ℕ) → v ≤ t.count → start_in nums v ≡ start t v

-- the numbers with the starts in the first n
unfoldable pub filled : Layout → List ℕ → ℕ → List ℕ
filled t nums zero = nums
filled t nums (suc n) = set (filled t nums n) n (start t (suc n))

-- the vector that is listed as the i-th
abbrev pub listed_in : List ℕ → ℕ → ℕ
listed_in nums i = get_or nums i 0 / 65536

-- vector v listed as the i-th
unfoldable pub listing : List ℕ → ℕ → ℕ → List ℕ
listing nums i v = set nums i (v * 65536 + get_or nums i 0 % 65536)

-- What the code of the numbers and of the look-up asks, and says.
-- Assumes nothing.
use Rattle.std.specs.Prelude.{◌≡◌, List, length, set}
use Rattle.std.proofs.Math.Path.{refl}
use Rattle.std.proofs.Common.{◌∙◌, add-one, arith, lt-ltb, le-ltb, Fits}
use Prim.Native.Nat.{ℕ, zero, suc, ◌+◌, ◌-◌, ◌*◌, ◌%◌, ◌<◌, ◌≤◌}
use Rattle.std.proofs.Math.Numerals.{sub-one}
use Rattle.std.proofs.Math.ListN.{get_or, length-set}
use Rattle.std.specs.Int.{w64, w32}
use Rattle.states.specs.declared.States.{States}
use Rattle.states.specs.declared.States.TheVariants.{Two, Nine}
use Rattle.states.specs.Kind.{bytes_required, state_of}
use Rattle.tables.specs.Lists.{Lists, vectors}
use Rattle.tables.specs.Layout.Laws.{start_le}
use Rattle.tables.specs.Layout.{Layout, layout_of, start}
use Rattle.vecmarks.specs.declared.VecBufferInfo.{VecBufferInfo}
use Rattle.vecmarks.specs.Info.{info_at}
use Rattle.vecstarts.specs.Numbers.{layout_from, Shapes, start_in, Started, filled, listing}

-- ---- the layout

-- the layout goes by three of the tables' lists
pub layout_is : (t : Lists) → layout_of t ≡ layout_from t.mins t.maxs t.states
unfolding layout_from layout_of vectors
layout_is t = refl

pub bytes_most : (s : States) (w : ℕ) → bytes_required s w ≤ w
unfolding bytes_required
bytes_most Two w = omega arith
bytes_most Nine w = omega arith

pub fits_chunk : (s : States) (w x a b : ℕ) → w ≤ 4294967296 → x ≤ 4294967296 → a ≡ bytes_required s w → b ≡ bytes_required Two x → Fits w64 (a + b)
fits_chunk s w x a b h o p q = omega (arith, bytes_most s w, bytes_most Two x)

module _ (mins maxs states : List ℕ) where
  abbrev t : Layout
  t = layout_from mins maxs states

  abbrev n : ℕ
  n = length mins

  pub count_is : t.count ≡ n
  unfolding layout_from layout_of vectors
  count_is = refl

  module _ (v : ℕ) (h : v < n) where
    pub state_is : t.state v ≡ state_of (get_or states v 0)
    unfolding layout_from layout_of vectors
    state_is = rw (lt-ltb v n h)

    pub width_is : t.width v ≡ get_or maxs v 0 - get_or mins v 0 + 1
    unfolding layout_from layout_of vectors
    width_is = rw (lt-ltb v n h)

  pub state_flags : t.state n ≡ Two
  unfolding layout_from layout_of vectors
  state_flags = rw (le-ltb n n (omega arith))

  pub width_flags : t.width n ≡ n
  unfolding layout_from layout_of vectors
  width_flags = rw (le-ltb n n (omega arith))

-- ---- what the numbers hold

module _ (nums : List ℕ) where
  pub start_first : (v : ℕ) → v ≡ 0 → 0 ≡ start_in nums v
  unfolding start_in
  start_first v e = rw e

  pub start_next : (v r : ℕ) → (v ≡ 0 → ⊥) → r ≡ get_or nums (v - 1) 0 % 65536 → r ≡ start_in nums v
  unfolding start_in
  start_next v r z e = e ∙ next v z
    where
      next : (j : ℕ) → (j ≡ 0 → ⊥) → get_or nums (j - 1) 0 % 65536 ≡ start_in nums j
      next zero f = absurd (f refl)
      next (suc j) f = rw sub-one

  pub listing_is : (i v : ℕ) → set nums i (v * 65536 + get_or nums i 0 % 65536) ≡ listing nums i v
  unfolding listing
  listing_is i v = refl

-- ---- the starts filled in

-- the first i starts are in
pub record Filling (mins maxs states nums₀ : List ℕ) (at i : ℕ) (nums : List ℕ) : Type 0 where
  pub past : i ≤ length mins
  pub sum : at ≡ start (layout_from mins maxs states) i
  pub done : nums ≡ filled (layout_from mins maxs states) nums₀ i
  pub long : length nums ≡ length nums₀

pub fill_none : (mins maxs states nums : List ℕ) → Filling mins maxs states nums 0 0 nums
unfolding start filled
fill_none mins maxs states nums = record { past = omega arith; sum = refl; done = refl; long = refl }

module _ {mins maxs states : List ℕ} (s : Shapes mins maxs states) {v : ℕ} (h : v < length mins) where
  pub ask_top : v < length maxs
  ask_top = omega (arith, s.tops)

  pub ask_kind : v < length states
  ask_kind = omega (arith, s.kinds)

  pub ask_order : get_or mins v 0 ≤ get_or maxs v 0
  ask_order = s.order v h

module _ {mins maxs states nums₀ nums : List ℕ} {at i : ℕ} (f : Filling mins maxs states nums₀ at i nums) where
  pub fill_all : length mins ≤ i → nums ≡ filled (layout_from mins maxs states) nums₀ (length mins)
  fill_all h =
      let e : i ≡ length mins = omega (arith, f.past) in
      f.done ∙ rw e

  module _ (s : Shapes mins maxs states) (h : i < length mins) {k : States} (kind : k ≡ state_of (get_or states i 0)) {w : ℕ} (wide : w ≡ get_or maxs i 0 - get_or mins i 0 + 1)
      {n : ℕ} (bytes : n ≡ bytes_required k w + bytes_required Two w) where
    fill_sum : at + n ≡ start (layout_from mins maxs states) (i + 1)
    unfolding start
    fill_sum = rw (add-one i, state_is mins maxs states i h, width_is mins maxs states i h, f.sum, bytes, kind, wide)

    fill_small : at + n < 65536
    fill_small =
        let e : start (layout_from mins maxs states) (i + 1) ≤ start (layout_from mins maxs states) (length mins) = start_le (layout_from mins maxs states) (i + 1) (length mins) (omega arith) in
        omega (arith, fill_sum, s.small)

    pub fits_sum : Fits w64 (at + n)
    fits_sum = omega (arith, fill_small)

    pub fits_number : Fits w32 (at + n)
    fits_number = omega (arith, fill_small)

    pub fill_more : Filling mins maxs states nums₀ (at + n) (i + 1) (set nums i (at + n))
    unfolding filled
    fill_more =
        record {
          past = omega arith;
          sum = fill_sum;
          done = rw (add-one i, f.done, rw (add-one i) at fill_sum);
          long = length-set nums i _ ∙ f.long;
        }

-- ---- the look-up

module _ {mins maxs states nums : List ℕ} (s : Shapes mins maxs states) (k : Started (layout_from mins maxs states) nums) where
  pub ask_start : {v : ℕ} → v < length mins → v ≤ length nums
  unfolding layout_from layout_of vectors
  ask_start h = omega (arith, k.long)

  pub ask_flags : length mins ≤ length nums
  unfolding layout_from layout_of vectors
  ask_flags = k.long

  pub info_is : {v : ℕ} → v < length mins → {c : States} → c ≡ state_of (get_or states v 0) → {w : ℕ} → w ≡ get_or maxs v 0 - get_or mins v 0 + 1
      → {a b : ℕ} → a ≡ start_in nums v → b ≡ bytes_required c w
      → ◌≡◌ {A = VecBufferInfo} (record { start = a; bytes = b; width = w; states = c }) (info_at (layout_from mins maxs states) v)
  info_is {v} h p q r e = rw (e, r, p, q, state_is mins maxs states v h, width_is mins maxs states v h, k.starts v (rw count_is (omega arith)))

  pub flags_is : {a b : ℕ} → a ≡ start_in nums (length mins) → b ≡ bytes_required Two (length mins)
      → ◌≡◌ {A = VecBufferInfo} (record { start = a; bytes = b; width = length mins; states = Two }) (info_at (layout_from mins maxs states) (length mins))
  flags_is r e = rw (e, r, state_flags mins maxs states, width_flags mins maxs states, k.starts (length mins) (rw count_is (omega arith)))

-- ---- what the proofs of the functions search

pub ruleset number_laws = (start_first, start_next, listing_is, fits_chunk)

pub ruleset fill_laws = (fill_none, fill_all, ask_top, ask_kind, ask_order, fits_sum, fits_number, fill_more)

pub ruleset info_laws = (ask_top, ask_kind, ask_order, ask_start, ask_flags, info_is, flags_is)

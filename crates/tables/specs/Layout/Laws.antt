-- The laws of the layout: what it says of a vector and of the flags, and how far the starts go.
-- Assumes nothing.
use Rattle.std.specs.Prelude.{◌≡◌, length, get_or}
use Rattle.std.proofs.Math.Path.{refl}
use Rattle.std.proofs.Common.{ap, ◌∙◌, lt-ltb, le-ltb}
use Prim.Native.Nat.{ℕ, zero, suc, ◌+◌, ◌-◌, ◌*◌, ◌<◌, ◌≤◌}
use Rattle.std.proofs.Math.Nat.{add-zero, add-suc}
use native.Mathlib.Omega.{arith}
use Rattle.states.specs.declared.States.{States}
use Rattle.states.specs.declared.States.TheVariants.{Two, Nine}
use Rattle.states.specs.Kind.{bytes_required, state_of}
use Rattle.tables.specs.Lists.{Lists, vectors}
use Rattle.tables.specs.Layout.{Layout, layout_of, start, chunk, total_bytes, widths}

-- ---- a table's layout

module _ (t : Lists) where
  pub count_is : (layout_of t).count ≡ length t.mins
  unfolding layout_of vectors
  count_is = refl

  pub width_is : (v : ℕ) → v < length t.mins → (layout_of t).width v ≡ get_or t.maxs v 0 - get_or t.mins v 0 + 1
  unfolding layout_of vectors
  width_is v h = rw (lt-ltb v (length t.mins) h)

  pub state_is : (v : ℕ) → v < length t.mins → (layout_of t).state v ≡ state_of (get_or t.states v 0)
  unfolding layout_of vectors
  state_is v h = rw (lt-ltb v (length t.mins) h)

  pub flags_width : (layout_of t).width (length t.mins) ≡ length t.mins
  unfolding layout_of vectors
  flags_width = rw (le-ltb (length t.mins) (length t.mins) (omega arith))

  pub flags_state : (layout_of t).state (length t.mins) ≡ Two
  unfolding layout_of vectors
  flags_state = rw (le-ltb (length t.mins) (length t.mins) (omega arith))

-- ---- how far the starts go

chunk_most : (s : States) (w : ℕ) → 1 ≤ w → 8 * (bytes_required s w + bytes_required Two w) ≤ 5 * w + 11
unfolding bytes_required
chunk_most Two w h = omega arith
chunk_most Nine w h = omega arith

module _ (t : Layout) where
  start_most : (v : ℕ) → ((i : ℕ) → i < v → 1 ≤ t.width i) → 8 * start t v ≤ 5 * widths t v + 11 * v
  unfolding start widths
  start_most zero h = omega arith
  start_most (suc v) h = omega (arith, start_most v (λ i l. h i (omega arith)), chunk_most (t.state v) (t.width v) (h v (omega arith)))

  pub start_suc : (v : ℕ) → start t (suc v) ≡ start t v + chunk t v
  unfolding start
  start_suc v = refl

  -- with the limits of the tables, a start takes 16 bits
  pub start_small : (n : ℕ) → ((i : ℕ) → i < n → 1 ≤ t.width i) → widths t n ≤ 65535 → n ≤ 16383 → start t n ≤ 63486
  start_small n h w l = omega (arith, start_most n h)

  start_mono : (v d : ℕ) → start t v ≤ start t (v + d)
  unfolding start
  start_mono v zero = rw add-zero (omega arith)
  start_mono v (suc d) = rw add-suc (omega (arith, start_mono v d))

  -- the chunk of a vector ends where a later one starts, or before
  pub start_le : (v w : ℕ) → v ≤ w → start t v ≤ start t w
  start_le v w h =
      let e : v + (w - v) ≡ w = omega arith in
      rw e at (start_mono v (w - v))

-- "and two flag runs, each V/8 rounded up"
pub total_is : (t : Lists) → total_bytes (layout_of t) ≡ start (layout_of t) (length t.mins) + (bytes_required Two (length t.mins) + bytes_required Two (length t.mins))
total_is t = ap (λ (n : ℕ). start (layout_of t) (suc n)) (count_is t) ∙ start_suc (layout_of t) (length t.mins) ∙ rw (flags_width t, flags_state t)

pub total_small : (t : Lists) → length t.mins ≤ 16383 → start (layout_of t) (length t.mins) ≤ 63486 → total_bytes (layout_of t) ≤ 63486 + 4096
unfolding bytes_required
total_small t n s = omega (arith, total_is t)

-- What accepted tables give their callers. Signals and vectors go by index here, their number less one.
-- Assumes nothing.
use Rattle.std.specs.Prelude.{◌≡◌, ℕ, ◌+◌, ◌-◌, ◌<◌, ◌≤◌, length, get_or}
use Rattle.tables.specs.Lists.{Lists}
use Rattle.tables.specs.Layout.{layout_of, start, total_bytes, widths}
pub mod Widths
pub mod Laws

-- check 1
pub record Limits (input events values room list : ℕ) : Type 0 where
  pub of_input : input ≤ 16777215
  pub of_events : events ≤ 1073741823
  pub of_values : values ≤ 1073741823
  pub of_room : room ≤ 1073741823
  pub of_list : list ≤ 1073741823

-- check 2
pub record Sized (t : Lists) : Type 0 where
  pub refs_long : length t.refs ≡ length t.kinds
  pub vecs_long : length t.vecs ≡ length t.kinds
  pub maxs_long : length t.maxs ≡ length t.mins
  pub states_long : length t.states ≡ length t.mins
  pub vec_refs_long : length t.vec_refs ≡ length t.mins
  pub few_signals : length t.kinds ≤ 65535
  pub few_vectors : length t.mins ≤ 16383

-- check 3, of one vector
pub record Vector (t : Lists) (v : ℕ) : Type 0 where
  pub least : 1 ≤ get_or t.mins v 0
  pub order : get_or t.mins v 0 ≤ get_or t.maxs v 0
  pub most : get_or t.maxs v 0 ≤ length t.kinds
  pub state : get_or t.states v 0 ≤ 1
  pub reference : 1 ≤ get_or t.vec_refs v 0

-- check 3
pub record Ranged (t : Lists) : Type 0 where
  pub vector : (v : ℕ) → v < length t.mins → Vector t v

-- check 4, of a signal that is a bit of a vector of this state
pub record Bit (t : Lists) (state i : ℕ) : Type 0 where
  pub some : 1 ≤ get_or t.vecs i 0
  pub inside : get_or t.vecs i 0 ≤ length t.mins
  pub above : get_or t.mins (get_or t.vecs i 0 - 1) 0 ≤ i + 1
  pub below : i + 1 ≤ get_or t.maxs (get_or t.vecs i 0 - 1) 0
  pub matches : get_or t.states (get_or t.vecs i 0 - 1) 0 ≡ state
  pub same : get_or t.vec_refs (get_or t.vecs i 0 - 1) 0 ≡ get_or t.refs i 0

-- check 4
pub record Signals (t : Lists) : Type 0 where
  pub kind : (i : ℕ) → i < length t.kinds → get_or t.kinds i 0 ≤ 6
  pub reference : (i : ℕ) → i < length t.kinds → 1 ≤ get_or t.refs i 0
  pub nine : (i : ℕ) → i < length t.kinds → get_or t.kinds i 0 ≡ 1 → Bit t 0 i
  pub two : (i : ℕ) → i < length t.kinds → get_or t.kinds i 0 ≡ 3 → Bit t 1 i
  pub alone : (i : ℕ) → i < length t.kinds → (get_or t.kinds i 0 ≡ 1 → ⊥) → (get_or t.kinds i 0 ≡ 3 → ⊥) → get_or t.vecs i 0 ≡ 0

-- check 5, and what follows with the others: no id lies in two ranges, so that the widths sum to no more than there are signals
pub record Named (t : Lists) : Type 0 where
  pub names : (v i : ℕ) → v < length t.mins → get_or t.mins v 0 ≤ i + 1 → i + 1 ≤ get_or t.maxs v 0 → get_or t.vecs i 0 ≡ v + 1
  pub disjoint : (u v id : ℕ) → u < length t.mins → v < length t.mins → get_or t.mins u 0 ≤ id → id ≤ get_or t.maxs u 0 → get_or t.mins v 0 ≤ id → id ≤ get_or t.maxs v 0 → u ≡ v
  pub narrow : widths (layout_of t) (length t.mins) ≤ length t.kinds
  pub starts : start (layout_of t) (length t.mins) ≤ 63486

pub record Good (t : Lists) (room list : ℕ) : Type 0 where
  pub sized : Sized t
  pub ranged : Ranged t
  pub signals : Signals t
  pub named : Named t
  pub bytes : total_bytes (layout_of t) ≤ room
  pub numbers : length t.mins ≤ list

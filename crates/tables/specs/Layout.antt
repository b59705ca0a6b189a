-- The working room: how many bytes the values and marks of each vector take, and where they start.
-- A vector goes by its index here, its number less one.
-- Assumes nothing.
use Rattle.std.specs.Prelude.{ℕ, zero, suc, ◌+◌, ◌-◌, ◌/◌, cond, ltb, get_or}
use Rattle.states.specs.declared.States.{States}
use Rattle.states.specs.declared.States.TheVariants.{Two}
use Rattle.states.specs.Kind.{bytes_required, state_of}
use Rattle.tables.specs.Lists.{Lists, vectors}
pub mod Laws

-- the widths and the states of the vectors 0, 1, .. and, at `count`, of the flags: two runs of a bit for each vector are laid out as the values and
-- the marks of one more two-state vector, whose value says that a vector has marks and whose mark says that it is listed
pub record Layout : Type 0 where
  pub count : ℕ
  pub width : ℕ → ℕ
  pub state : ℕ → States

unfoldable pub layout_of : Lists → Layout
layout_of t =
    record {
      count = vectors t;
      width = λ v. cond (ltb v (vectors t)) (get_or t.maxs v 0 - get_or t.mins v 0 + 1) (vectors t);
      state = λ v. cond (ltb v (vectors t)) (state_of (get_or t.states v 0)) Two;
    }

-- "all value bytes, all mask bytes (width divided by 8, rounded up)"
abbrev pub value_bytes : Layout → ℕ → ℕ
value_bytes t v = bytes_required (t.state v) (t.width v)

abbrev pub mask_bytes : Layout → ℕ → ℕ
mask_bytes t v = bytes_required Two (t.width v)

-- the value bytes of a vector and behind them its mask bytes
abbrev pub chunk : Layout → ℕ → ℕ
chunk t v = value_bytes t v + mask_bytes t v

-- where the chunk of v starts
unfoldable pub start : Layout → ℕ → ℕ
start t zero = 0
start t (suc v) = start t v + chunk t v

-- "Working room needed": the chunks of all vectors "and two flag runs, each V/8 rounded up"
abbrev pub total_bytes : Layout → ℕ
total_bytes t = start t (suc t.count)

-- the sum of the widths of the first vectors
unfoldable pub widths : Layout → ℕ → ℕ
widths t zero = 0
widths t (suc v) = widths t v + t.width v

-- The event of a signal outside vectors, with one place for one byte and for eight.
-- Assumes nothing.
use Rattle.std.specs.Prelude.{ℕ, ◌+◌, ◌%◌, ◌-◌, ◌<◌, ◌≤◌, cond, List, [], ◌∷◌, leb, eqb, length}
use Rattle.numbers.specs.Fixed.{big_bytes}
use Rattle.states.specs.declared.States.{States}
use Rattle.states.specs.declared.States.TheVariants.{Two, Nine}
use Rattle.tables.specs.Lists.{nth}
use Rattle.values.specs.Value.{Suits}
use Rattle.event_rooms.specs.declared.Counts.{Counts}
use Rattle.event_rooms.specs.Out.Laws.{EventsRoom, ValuesRoom}
use Rattle.gather.specs.Writes.{Alone}
pub mod Code

-- "Signal kinds 0 and 1 make nine-state events, 2 to 5 two-state events"
abbrev pub plain_states : ℕ → States
plain_states kind = cond (leb kind 1) Nine Two

-- "kind 5 .. reported as eight big-endian bytes"; of the others below 6, one
unfoldable pub plain_value : (kind v : ℕ) → List ℕ
plain_value kind v = cond (eqb kind 5) (big_bytes 8 v) (v % 256 ∷ [])

-- the bytes fit at a place
pub record Fitting (values : List ℕ) (at kind v : ℕ) : Type 0 where
  pub fits : at + length (plain_value kind v) ≤ length values

pub record Plain (events values : List ℕ) (c : Counts) (kind v : ℕ) : Type 0 where
  pub alone : Alone events values c kind v
  pub plain : kind ≤ 5

-- .. of the signal with this id
pub record AloneAt (kinds refs events values : List ℕ) (c : Counts) (id v : ℕ) : Type 0 where
  pub some : 1 ≤ id
  pub in_kinds : id - 1 < length kinds
  pub in_refs : id - 1 < length refs
  pub in_events : EventsRoom events c
  pub in_values : ValuesRoom values c
  pub suits : Suits (nth kinds id) v

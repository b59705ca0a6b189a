-- Events appended to the event room and the value room, where they fit.
-- Assumes nothing.
use Rattle.std.specs.Prelude.{ℕ, ◌+◌, Bool, cond, ◌&&◌, List, [], ◌∷◌, ◌++◌, length, leb}
use Rattle.std.proofs.Math.Option.{Option, none, some}
use Rattle.records.specs.Event.{Event, record_of, record_bytes, event_value, event_steps}
pub mod Laws
pub mod Code

-- how many bytes the two rooms have
pub record Rooms : Type 0 where
  pub events : ℕ
  pub values : ℕ

-- what has been written so far; the steps are the times
pub record Out : Type 0 where
  pub events : List ℕ
  pub values : List ℕ
  pub steps : ℕ

unfoldable pub empty : Out
empty = record { events = []; values = []; steps = 0 }

module _ (r : Rooms) where
  -- "next event doesn't fit event or value room"
  unfoldable pub fits : Out → Event → Bool
  fits o e = leb (length o.events + length (record_bytes (record_of 0 e))) r.events && leb (length o.values + length (event_value e)) r.values

  -- "Value bytes lie end to end in event order."
  unfoldable pub appended : Out → Event → Out
  appended o e = record { events = o.events ++ record_bytes (record_of (length o.values) e); values = o.values ++ event_value e; steps = o.steps + event_steps e }

  unfoldable pub append : Out → Event → Option Out
  append o e = cond (fits o e) (some (appended o e)) none

  unfoldable pub append_all : List Event → Option Out → Option Out
  append_all [] o = o
  append_all (e ∷ es) none = none
  append_all (e ∷ es) (some o) = append_all es (append o e)

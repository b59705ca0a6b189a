-- Events in the two rooms: their records one behind the other, their value bytes, how many are times; and the first that does not fit.
-- Assumes nothing.
use Rattle.std.specs.Prelude.{ℕ, ◌+◌, ◌≤◌, ◌≡◌, false, List, [], ◌∷◌, ◌++◌, length}
use Rattle.std.proofs.Math.Option.{some}
use Rattle.records.specs.Event.{Event, record_of, record_bytes, event_value, event_steps}
use Rattle.event_rooms.specs.Out.{Rooms, Out, fits, append_all}
pub mod Laws

-- the records of some events, where the value bytes of the first start at `start`: "Value bytes lie end to end in event order."
unfoldable pub rendered : ℕ → List Event → List ℕ
rendered start [] = []
rendered start (e ∷ es) = record_bytes (record_of start e) ++ rendered (start + length (event_value e)) es

unfoldable pub values_of : List Event → List ℕ
values_of [] = []
values_of (e ∷ es) = event_value e ++ values_of es

-- "steps (time events made)"
unfoldable pub steps_of : List Event → ℕ
steps_of [] = 0
steps_of (e ∷ es) = event_steps e + steps_of es

-- what some events leave behind what was there
pub record Rendered (o : Out) (es : List Event) (o' : Out) : Type 0 where
  pub events : o'.events ≡ o.events ++ rendered (length o.values) es
  pub values : o'.values ≡ o.values ++ values_of es
  pub steps : o'.steps ≡ o.steps + steps_of es

abbrev pub Within : Rooms → Out → Type 0
Within r o = (length o.events ≤ r.events) × (length o.values ≤ r.values)

-- the first of some events that "doesn't fit event or value room"
pub record Misfit (r : Rooms) (es : List Event) (o : Out) : Type 0 where
  pub before : List Event
  pub event : Event
  pub behind : List Event
  pub split : es ≡ before ++ event ∷ behind
  pub filled : Out
  pub fill : append_all r before (some o) ≡ some filled
  pub full : fits r filled event ≡ false

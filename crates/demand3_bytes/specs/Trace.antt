-- The acts and the labelled records of what happens, in one order.
-- Assumes nothing.
use Prim.Native.Nat.{ℕ, ◌+◌, ◌-◌}
use Rattle.std.specs.Prelude.{length}
use mathlib.Core.List.{List, [], ◌∷◌}
use Rattle.rules.specs.Gather.{at}
use Rattle.records.specs.Event.{Event, value, record_of, record_bytes, event_value}
use Rattle.demand3_bytes.specs.Statements.{Labelled, label_of}
pub mod Named
pub mod Nexts

-- ---- records

-- an event's record, where its value bytes start at `start`
unfoldable pub labelled : ℕ → Event → Labelled
labelled start e = record { label = label_of e; bytes = record_bytes (record_of start e) }

unfoldable pub labelled_from : ℕ → List Event → List Labelled
labelled_from start [] = []
labelled_from start (e ∷ es) = labelled start e ∷ labelled_from (start + length (event_value e)) es

-- What one turn does to the lent memory: a write to a bit, the step's end of one vector, and the event that is due after either.
-- Assumes nothing.
use Rattle.event_rooms.specs.Put.{Put}
use Rattle.std.specs.Prelude.{ℕ, ◌+◌, ◌<◌, true, false, cond, List, length, None, Some}
use Rattle.slices.specs.Splice.{splice}
use Rattle.event_rooms.specs.declared.Counts.{Counts}
use Rattle.records.specs.declared.Record.TheVariants.{Value}
use Rattle.records.specs.Event.{record_bytes}
use Rattle.event_rooms.specs.Out.Laws.{EventsRoom, ValuesRoom, room_for, counted}
use Rattle.vecmarks.specs.Info.{Inside, is_second, has_marks, with_mark, marks_of}
use Rattle.vecmarks.specs.Full.{full_in}
use Rattle.vecbuffer.specs.Changes as change
use Rattle.vecbuffer.specs.Changes.{updated, Updates, taken}
use Rattle.gather.specs.declared.VecInfo.{VecInfo}
use Rattle.gather.specs.declared.Gathered.{Gathered}
use Rattle.turns.specs.declared.Turned.{Turned}
pub mod Code

-- ---- a write to a bit

-- the room, the numbers, and the turn's answer
pub data Left : Type 0 where
  mk : List ℕ → List ℕ → Turned → Left

-- after (b): the write is made, and an event is due by (c), as the mask bytes say it
unfoldable pub stored_turn : VecInfo → Gathered → change.Lent → Left
stored_turn x c (change.mk room list k) = mk room list (record { due = full_in x.info.width (marks_of x.info room); over = true; ended = c.ended; listed = k })

-- (a): an event is due first, nothing has changed, and the write is still to be made; else (b)
unfoldable pub turn_write : VecInfo → Gathered → (bit value : ℕ) → (room list : List ℕ) → Left
turn_write x c bit value room list =
    cond (is_second x.info bit value room)
    (mk room list (record { due = true; over = false; ended = c.ended; listed = c.listed }))
    (stored_turn x c (updated x.info x.flags x.v c.listed bit value room list))

pub record Writing (room list : List ℕ) (x : VecInfo) (c : Gathered) (bit value : ℕ) : Type 0 where
  pub updates : Updates room list x.info x.flags x.v c.listed bit value

-- ---- the step's end of one vector

-- it is listed no more; an event is due where it has marks; the step's end is still to come to those behind it
unfoldable pub turn_end : VecInfo → Gathered → List ℕ → List ℕ × Turned
turn_end x c room =
    let room₁ = with_mark x.flags x.v 0 room in
    (room₁, record { due = has_marks x.flags x.v room₁; over = false; ended = c.ended + 1; listed = c.listed })

pub record Unlists (room : List ℕ) (x : VecInfo) (c : Gathered) : Type 0 where
  pub flags : Inside room x.flags
  pub known : x.v < x.flags.width
  pub more : c.ended < c.listed

-- ---- the event that is due

-- the room, the two rooms for output, and whether the event fitted
pub data Made : Type 0 where
  mk : List ℕ → List ℕ → List ℕ → Put → Made

-- "make an event of the stored vector and clear its marks"; where it does not fit, nothing changes
unfoldable pub show_vector : VecInfo → Counts → (room events values : List ℕ) → Made
show_vector x c room events values =
    let n = x.info.bytes in
    let after = taken x.info x.flags x.v c.values room values in
    cond (room_for (length events) (length values) c 13 n)
    (mk after.0 (splice events c.events (record_bytes (Value x.info.states x.reference c.values n))) after.1 (Some (counted c 13 n 0)))
    (mk room events values None)

pub record Showing (room events values : List ℕ) (c : Counts) (x : VecInfo) : Type 0 where
  pub vector : Inside room x.info
  pub flags : Inside room x.flags
  pub known : x.v < x.flags.width
  pub in_events : EventsRoom events c
  pub in_values : ValuesRoom values c

-- What the proofs of the turns search.
-- Assumes nothing.
use Rattle.std.specs.Prelude.{ℕ, ◌+◌, ◌<◌, ◌≤◌, ◌≡◌, Bool, true, false, not, List, length, None, Some}
use Rattle.std.proofs.Common.{sym, ◌∙◌, arith}
use borrow.Author.Tests.{not-true, not-false}
use Rattle.slices.specs.Splice.{splice}
use Rattle.event_rooms.specs.declared.Counts.{Counts}
use Rattle.records.specs.declared.Record.TheVariants.{Value}
use Rattle.records.specs.Event.{record_bytes}
use Rattle.event_rooms.specs.Out.Laws.{room_for, room_fits, counted}
use Rattle.vecmarks.specs.Info.{Inside, is_second, has_marks, with_mark, marks_of}
use Rattle.vecmarks.specs.Full.{full_in}
use Rattle.vecbuffer.specs.Changes as change
use Rattle.vecbuffer.specs.Changes.{updated, Updates, taken, Takes}
use Rattle.vecbuffer.proofs.Changes.Laws.{after_mark}
use Rattle.gather.specs.declared.VecInfo.{VecInfo}
use Rattle.gather.specs.declared.Gathered.{Gathered}
use Rattle.turns.specs.Turns.{Writing, stored_turn, turn_write, turn_end, Unlists, show_vector, Showing}
use Rattle.turns.specs.Turns as turn

-- ---- a write to a bit

module _ {room list : List ℕ} {x : VecInfo} {c : Gathered} {bit y : ℕ} (q : Writing room list x c bit y) where
  pub ask_second : Inside room x.info × (bit < x.info.width)
  ask_second = (q.updates.vector, q.updates.inside)

  pub ask_update : Updates room list x.info x.flags x.v c.listed bit y
  ask_update = q.updates

  module _ {m : Bool} (e : m ≡ is_second x.info bit y room) where
    -- rule (a)
    pub says_clash : m ≡ true → turn.mk room list (record { due = true; over = false; ended = c.ended; listed = c.listed }) ≡ turn_write x c bit y room list
    unfolding turn_write
    says_clash z = rw (← e, z)

    -- rules (b) and (c)
    pub says_stored : m ≡ false → {room' list' : List ℕ} {k : ℕ} → change.mk room' list' k ≡ updated x.info x.flags x.v c.listed bit y room list
        → {d : Bool} → d ≡ full_in x.info.width (marks_of x.info room')
        → turn.mk room' list' (record { due = d; over = true; ended = c.ended; listed = k }) ≡ turn_write x c bit y room list
    unfolding turn_write stored_turn
    says_stored z p f = rw (← e, z, ← p, f)

pub ruleset write_laws = (ask_second, ask_update, says_clash, says_stored)

-- ---- the step's end of one vector

module _ {room : List ℕ} {x : VecInfo} {c : Gathered} (q : Unlists room x c) where
  pub ask_unlist : Inside room x.flags × (x.v < x.flags.width)
  ask_unlist = (q.flags, q.known)

  pub ask_still : {room₁ : List ℕ} (b : ℕ) → room₁ ≡ with_mark x.flags b 0 room → Inside room₁ x.flags
  ask_still b e = after_mark q.flags x.flags b 0 e

  pub ask_known : x.v < x.flags.width
  ask_known = q.known

  pub says_ended : {room₁ : List ℕ} → room₁ ≡ with_mark x.flags x.v 0 room → {d : Bool} → d ≡ has_marks x.flags x.v room₁
      → (room₁, record { due = d; over = false; ended = c.ended + 1; listed = c.listed }) ≡ turn_end x c room
  unfolding turn_end
  says_ended p d = rw (d, p)

pub ruleset end_laws = (ask_unlist, ask_still, ask_known, says_ended)

-- ---- the event that is due

module _ {room events values : List ℕ} {c : Counts} {x : VecInfo} (q : Showing room events values c x) where
  pub ask_used : (c.events ≤ length events) × (c.values ≤ length values)
  ask_used = (q.in_events.used, q.in_values.used)

  module _ {m : Bool} (t : m ≡ room_for (length events) (length values) c 13 x.info.bytes) where
    pub says_full : not m ≡ true → turn.mk room events values None ≡ show_vector x c room events values
    unfolding show_vector
    says_full z = rw (← t, not-true m z)

    module _ (h : not m ≡ false) where
      fits : (c.events + 13 ≤ length events) × (c.values + x.info.bytes ≤ length values)
      fits = room_fits (length events) (length values) c 13 x.info.bytes (sym t ∙ not-false m h)

      pub ask_take : Takes room x.info x.flags x.v values c.values
      ask_take = record { vector = q.vector; flags = q.flags; known = q.known; space = fits.1 }

      pub ask_record : c.events + 13 ≤ length events
      ask_record = fits.0

      pub ask_value : c.values + x.info.bytes ≤ 1073741823
      ask_value = omega (arith, fits, q.in_values.few)

      pub says_shown : {room' values' : List ℕ} → (room', values') ≡ taken x.info x.flags x.v c.values room values
          → {c' : Counts} → c' ≡ counted c 13 x.info.bytes 0
          → {events' : List ℕ} → events' ≡ splice events c.events (record_bytes (Value x.info.states x.reference c.values x.info.bytes))
          → turn.mk room' events' values' (Some c') ≡ show_vector x c room events values
      unfolding show_vector
      says_shown p n a = rw (← t, not-false m h, ← p, n, a)

pub ruleset show_laws = (ask_used, ask_take, ask_record, ask_value, says_full, says_shown)

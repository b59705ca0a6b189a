-- What the proofs of the functions over one vector search: the event of a vector, rules (a), (b) and (c).
-- Assumes nothing.
use Rattle.std.specs.Prelude.{◌≡◌, ℕ, suc, ◌<◌, Bool, true, false, not, length, get_or}
use Rattle.std.proofs.Common.{sym, ◌∙◌}
use mathlib.Core.List.{List, []}
use borrow.Author.Tests.{not-true, not-false}
use Rattle.slices.specs.Splice.{splice}
use Rattle.states.specs.Kind.{state_of}
use Rattle.states.specs.Packed.{packed}
use Rattle.tables.specs.Lists.{Lists}
use Rattle.tables.specs.Layout.Laws.{count_is, state_is}
use Rattle.rules.specs.Gather.{State}
use Rattle.event_rooms.specs.declared.Counts.{Counts}
use Rattle.records.specs.declared.Record.TheVariants.{Value}
use Rattle.records.specs.Event.{record_bytes}
use Rattle.event_rooms.specs.Out.{Rooms, Out}
use Rattle.event_rooms.specs.Out.Laws.{room_for, counted, value_full, value_done}
use Rattle.vecbuffer.specs.Changes.{taken}
use Rattle.vecbuffer.proofs.Stands.Laws.{values_long, stands_taken, values_taken}
use Rattle.gather.specs.Memory.{mem_of, HoldsAt}
use Rattle.gather.specs.Memory.Laws.{clean_taken}
use Rattle.gather.specs.Follows.{Done, Full}
use Rattle.gather.specs.declared.Gathered.{Gathered}
use Rattle.gather.specs.declared.VecInfo.{VecInfo}
use Rattle.gather.specs.Makes.{vec_info, Seen, Shown, event_of, shown_events, shown_state, always}

-- ---- an event of a vector

module _ {x : VecInfo} {room events values : List ℕ} {c : Gathered} {m : Bool} (e : m ≡ room_for (length events) (length values) c.counts 13 x.info.bytes) where
  module _ {t : Lists} {v : ℕ} (s : Seen t v x) {list : List ℕ} {r : Rooms} {i : ℕ} {g : State} {o : Out} (h : HoldsAt t r (mem_of room list events values) i c g o) where
    known : v < length t.mins
    known = rw count_is at s.known

    state : x.info.states ≡ state_of (get_or t.states v 0)
    state = rw s.is (state_is t v known)

    long : x.info.bytes ≡ length (packed (state_of (get_or t.states v 0)) (g.vecs v).vals)
    long = rw (s.is, ← state_is t v known) (sym (values_long h.stands s.known))

  pub event_full : not m ≡ true → {room' events' values' : List ℕ} → Shown x room events values c room' events' values' Full always
  unfolding shown_events always event_of
  event_full z =
      record {
        shown = λ t v list i s.
            record {
              makes = λ r g o h.
                  (value_full (suc v) (state_of (get_or t.states v 0)) (get_or t.vec_refs v 0) _ x.info.bytes (long s h) events values c.counts [] [] (sym e ∙ not-true m z)).comes r o h.written;
            };
      }

  pub event_done : not m ≡ false → {room' values' : List ℕ} → (room', values') ≡ taken x.info x.flags x.v c.counts.values room values
      → {c' : Counts} → c' ≡ counted c.counts 13 x.info.bytes 0
      → {events' : List ℕ} → events' ≡ splice events c.counts.events (record_bytes (Value x.info.states x.reference c.counts.values x.info.bytes))
      → Shown x room events values c room' events' values' (Done (record { ended = c.ended; listed = c.listed; counts = c' })) always
  unfolding shown_events shown_state always event_of
  event_done z {room'} {values'} d {c'} n {events'} a =
      record {
        shown = λ t v list i s.
            record {
              makes = λ r g o h.
                  let d' : (room', values') ≡ taken (vec_info t v).info (vec_info t v).flags v c.counts.values room values = rw s.is at d in
                  let k =
                  (value_done (suc v) (state_of (get_or t.states v 0)) (get_or t.vec_refs v 0) (packed (state_of (get_or t.states v 0)) (g.vecs v).vals) x.info.bytes (long s h) events values c.counts events' values'
                  (sym e ∙ not-false m z) (a ∙ rw (state s h, s.is)) (rw (← state_is t v (known s h)) (values_taken h.stands s.known values c.counts.values d' h.clean.byte))).comes r o h.written in
                  (k.0, k.1, record { stands = stands_taken h.stands s.known values c.counts.values d'; clean = clean_taken h.stands h.clean s.known values c.counts.values d'; written = rw n k.2 });
            };
      }

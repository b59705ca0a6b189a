-- Rooms whose first bytes are what has been written, and appends that follow one another.
-- Assumes nothing.
use Rattle.event_rooms.specs.Put.{Put}
use Rattle.std.specs.Prelude.{◌≡◌, ℕ, ◌+◌, ◌*◌, ◌≤◌, Bool, true, false, ◌&&◌, leb, take, None, Some}
use Rattle.std.proofs.Math.Path.{refl, sym}
use Rattle.std.proofs.Common.{ap, ◌∙◌, arith, length-append}
use Rattle.std.proofs.lemmas.Bool.{false≢true}
use Rattle.std.proofs.Math.Option.{Option, none, some}
use mathlib.Core.List.{List, [], ◌∷◌, ◌++◌}
use borrow.Author.Tests.{leb-true}
use Rattle.std.proofs.Math.ListN.{length}
use Rattle.slices.specs.Splice.{splice}
use Rattle.states.specs.declared.States.{States}
use Rattle.records.specs.declared.Record.TheVariants.{Value}
use Rattle.slices.specs.Splice.Laws.{length_splice, take_splice}
use Rattle.event_rooms.specs.declared.Counts.{Counts}
use Rattle.records.specs.Event.{Event, time, value, real, record_of, record_bytes, event_value, event_steps}
use Rattle.records.specs.Event.Laws.{length_time, length_value}
use Rattle.event_rooms.specs.Out.{Rooms, Out, empty, fits, appended, append, append_all}

-- ---- what the rooms hold

-- the counts suit the event room, which is no larger than a room may be: "1,073,741,823 bytes in any other buffer"
pub record EventsRoom (events : List ℕ) (c : Counts) : Type 0 where
  pub used : c.events ≤ length events
  pub few : length events ≤ 1073741823
  pub steps_few : 9 * c.steps ≤ c.events

-- .. and the value room
pub record ValuesRoom (values : List ℕ) (c : Counts) : Type 0 where
  pub used : c.values ≤ length values
  pub few : length values ≤ 1073741823

-- the first bytes of the two rooms, as counted, are what has been written
pub record Written (r : Rooms) (events values : List ℕ) (c : Counts) (o : Out) : Type 0 where
  pub event_bytes : take c.events events ≡ o.events
  pub value_bytes : take c.values values ≡ o.values
  pub event_count : c.events ≡ length o.events
  pub value_count : c.values ≡ length o.values
  pub steps : c.steps ≡ o.steps
  pub event_room : length events ≡ r.events
  pub value_room : length values ≡ r.values
  pub in_events : EventsRoom events c
  pub in_values : ValuesRoom values c

-- before anything is written
pub written_nothing : (events values : List ℕ) → length events ≤ 1073741823 → length values ≤ 1073741823
    → Written (record { events = length events; values = length values }) events values (record { events = 0; values = 0; steps = 0 }) empty
unfolding empty
written_nothing events values h k =
    record {
      event_bytes = refl;
      value_bytes = refl;
      event_count = refl;
      value_count = refl;
      steps = refl;
      event_room = refl;
      value_room = refl;
      in_events = record { used = omega arith; few = h; steps_few = omega arith };
      in_values = record { used = omega arith; few = k };
    }

-- the rooms and the counts say what has been written
pub written_is : {r : Rooms} {events values : List ℕ} {c : Counts} {o : Out} → Written r events values c o → o ≡ record { events = take c.events events; values = take c.values values; steps = c.steps }
written_is w = rw (w.event_bytes, w.value_bytes, w.steps)

-- whether a record and a value of so many bytes fit rooms of so many
unfoldable pub room_for : (events values : ℕ) → Counts → (record_bytes_lem value_bytes : ℕ) → Bool
room_for events values c n m = leb (c.events + n) events && leb (c.values + m) values

both : (a b : Bool) → (a && b) ≡ true → (a ≡ true) × (b ≡ true)
both true b h = (refl, h)
both false b h = absurd (false≢true h)

module _ (events values : ℕ) (c : Counts) (n m : ℕ) where
  pub room_fits : room_for events values c n m ≡ true → (c.events + n ≤ events) × (c.values + m ≤ values)
  unfolding room_for
  room_fits h =
      let b = both (leb (c.events + n) events) (leb (c.values + m) values) h in
      (leb-true (c.events + n) events b.0, leb-true (c.values + m) values b.1)

-- so many bytes and steps more
abbrev pub counted : Counts → (record_bytes_lem value_bytes steps : ℕ) → Counts
counted c n m k = record { events = c.events + n; values = c.values + m; steps = c.steps + k }

-- ---- a promise to append

-- what rooms hold after some events: the answer says whether they fitted
abbrev pub Comes : Rooms → Option Out → (events values : List ℕ) → Put → Type 0
Comes r x events values (Some c) = (o : Out) × (x ≡ some o) × Written r events values c o
Comes r x events values None = x ≡ none

-- from rooms that hold whatever was written before, these events make of them what the definition says
pub record Appends (es : List Event) (events values : List ℕ) (c : Counts) (events' values' : List ℕ) (p : Put) : Type 0 where
  pub comes : (r : Rooms) (o : Out) → Written r events values c o → Comes r (append_all r es (some o)) events' values' p

module _ (r : Rooms) where
  pub all_none : (es : List Event) → append_all r es none ≡ none
  unfolding append_all
  all_none [] = refl
  all_none (e ∷ es) = refl

  -- events in two parts
  pub all_append : (a b : List Event) (o : Option Out) → append_all r (a ++ b) o ≡ append_all r b (append_all r a o)
  unfolding append_all
  all_append [] b o = refl
  all_append (e ∷ a) b none = sym (all_none b)
  all_append (e ∷ a) b (some o) = all_append a b (append r o e)

  pub all_one : (e : Event) (o : Out) → append_all r (e ∷ []) (some o) ≡ append r o e
  unfolding append_all
  all_one e o = refl

-- one event, in the words of `append`
pub appends_one : {e : Event} {events values : List ℕ} {c : Counts} {events' values' : List ℕ} {p : Put} → Appends (e ∷ []) events values c events' values' p
    → (r : Rooms) (o : Out) → Written r events values c o → Comes r (append r o e) events' values' p
appends_one {e} a r o w = rw (all_one r e o) at (a.comes r o w)

pub appends_nothing : (events values : List ℕ) (c : Counts) → Appends [] events values c events values (Some c)
unfolding append_all
appends_nothing events values c = record { comes = λ r o w. (o, refl, w) }

module _ {a : List Event} {events values : List ℕ} {c : Counts} {events₁ values₁ : List ℕ} where
  -- some events, and then others
  pub appends_then : {c₁ : Counts} {b : List Event} {events₂ values₂ : List ℕ} {p : Put} → Appends a events values c events₁ values₁ (Some c₁) → Appends b events₁ values₁ c₁ events₂ values₂ p
      → Appends (a ++ b) events values c events₂ values₂ p
  appends_then {b = b} f g = record { comes = λ r o w. rw (all_append r a b (some o), (f.comes r o w).1) (g.comes r (f.comes r o w).0 (f.comes r o w).2) }

  -- where some do not fit, no more do
  pub appends_stop : (b : List Event) {events₂ values₂ : List ℕ} → Appends a events values c events₁ values₁ None → Appends (a ++ b) events values c events₂ values₂ None
  appends_stop b f = record { comes = λ r o w. all_append r a b (some o) ∙ rw (f.comes r o w) (all_none r b) }

-- ---- an event that fits, and one that does not

-- how long a record is does not turn on where its value starts
pub length_record : (start : ℕ) (e : Event) → length (record_bytes (record_of start e)) ≡ length (record_bytes (record_of 0 e))
unfolding record_of
length_record start (time u) = refl
length_record start (value v s reference bs) = length_value s reference start (length bs) ∙ sym (length_value s reference 0 (length bs))
length_record start (real reference bits) = refl

-- a time takes nine bytes, so there are fewer times than bytes
steps_long : (e : Event) → 9 * event_steps e ≤ length (record_bytes (record_of 0 e))
unfolding event_steps record_of
steps_long (time u) = omega (arith, length_time u)
steps_long (value v s reference bs) = omega arith
steps_long (real reference bits) = omega arith

-- whether an event fits rooms of so many bytes
abbrev pub room_for_event : (events values : ℕ) → Counts → Event → Bool
room_for_event events values c e = room_for events values c (length (record_bytes (record_of 0 e))) (length (event_value e))

module _ {r : Rooms} {events values : List ℕ} {c : Counts} {o : Out} (w : Written r events values c o) (e : Event) where
  pub fits_is : fits r o e ≡ room_for_event (length events) (length values) c e
  unfolding fits room_for
  fits_is = rw (← w.event_count, ← w.value_count, ← w.event_room, ← w.value_room)

  pub append_full : room_for_event (length events) (length values) c e ≡ false → append r o e ≡ none
  unfolding append
  append_full h = rw (fits_is, h)

  module _ (h : room_for_event (length events) (length values) c e ≡ true) where
    pub append_fits : append r o e ≡ some (appended r o e)
    unfolding append
    append_fits = rw (fits_is, h)

    module _ {events' values' : List ℕ} {c' : Counts} (p : events' ≡ splice events c.events (record_bytes (record_of c.values e))) (q : values' ≡ splice values c.values (event_value e))
        (n : c'.events ≡ c.events + length (record_bytes (record_of 0 e))) (m : c'.values ≡ c.values + length (event_value e)) (k : c'.steps ≡ c.steps + event_steps e) where
      pub written_more : Written r events' values' c' (appended r o e)
      unfolding appended
      written_more =
          record {
            event_bytes = rw (p, n, ← length_record c.values e, take_splice events c.events (record_bytes (record_of c.values e)) (omega (arith, w.in_events.used)), w.event_bytes, w.value_count);
            value_bytes = rw (q, m, take_splice values c.values (event_value e) (omega (arith, w.in_values.used)), w.value_bytes);
            event_count = n ∙ rw (w.event_count, ← length_record (length o.values) e) (sym (length-append o.events (record_bytes (record_of (length o.values) e))));
            value_count = m ∙ rw w.value_count (sym (length-append o.values (event_value e)));
            steps = k ∙ rw w.steps;
            event_room = long_events ∙ w.event_room;
            value_room = long_values ∙ w.value_room;
            in_events = record { used = omega (arith, n, long_events, fit); few = omega (arith, long_events, w.in_events.few); steps_few = omega (arith, n, k, steps_long e, w.in_events.steps_few) };
            in_values = record { used = omega (arith, m, long_values, fit); few = omega (arith, long_values, w.in_values.few) };
          }
        where
          fit : (c.events + length (record_bytes (record_of 0 e)) ≤ length events) × (c.values + length (event_value e) ≤ length values)
          fit = room_fits (length events) (length values) c (length (record_bytes (record_of 0 e))) (length (event_value e)) h

          long_events : length events' ≡ length events
          long_events = ap length p ∙ length_splice events c.events (record_bytes (record_of c.values e)) (omega (arith, length_record c.values e, fit))

          long_values : length values' ≡ length values
          long_values = ap length q ∙ length_splice values c.values (event_value e) fit.1

module _ (e : Event) (events values : List ℕ) (c : Counts) (events' values' : List ℕ) where
  pub appends_full : room_for_event (length events) (length values) c e ≡ false → Appends (e ∷ []) events values c events' values' None
  appends_full h = record { comes = λ r o w. all_one r e o ∙ append_full w e h }

  pub appends_done : room_for_event (length events) (length values) c e ≡ true → events' ≡ splice events c.events (record_bytes (record_of c.values e)) → values' ≡ splice values c.values (event_value e)
      → (c' : Counts) → c'.events ≡ c.events + length (record_bytes (record_of 0 e)) → c'.values ≡ c.values + length (event_value e) → c'.steps ≡ c.steps + event_steps e
      → Appends (e ∷ []) events values c events' values' (Some c')
  appends_done h p q c' n m k = record { comes = λ r o w. (appended r o e, all_one r e o ∙ append_fits w e h, written_more w e h p q n m k) }

-- a value whose bytes are copied beside its record: the test, the copy and the append in whichever order
module _ (vector : ℕ) (s : States) (reference : ℕ) (bs : List ℕ) (n : ℕ) (long : n ≡ length bs) (events values : List ℕ) (c : Counts) (events' values' : List ℕ) where
  size : length (record_bytes (record_of 0 (value vector s reference bs))) ≡ 13
  unfolding record_of
  size = length_value s reference 0 (length bs)

  pub value_full : room_for (length events) (length values) c 13 n ≡ false → Appends (value vector s reference bs ∷ []) events values c events' values' None
  unfolding event_value
  value_full h = appends_full (value vector s reference bs) events values c events' values' (rw (size, ← long) h)

  pub value_done : room_for (length events) (length values) c 13 n ≡ true → events' ≡ splice events c.events (record_bytes (Value s reference c.values n)) → values' ≡ splice values c.values bs
      → Appends (value vector s reference bs ∷ []) events values c events' values' (Some (counted c 13 n 0))
  unfolding event_value record_of event_steps
  value_done h p q =
      appends_done (value vector s reference bs) events values c events' values' (rw (size, ← long) h) (p ∙ rw long) q (counted c 13 n 0) (rw size) (rw long) refl

-- What the proofs of the functions that append an event where it fits search.
-- Assumes nothing.
use Rattle.std.specs.Prelude.{◌≡◌, ℕ, ◌+◌, ◌-◌, ◌≤◌, ◌<◌, Bool, true, false, not, List, [], ◌∷◌, leb, length, None, Some}
use Rattle.std.proofs.Math.Path.{refl, sym}
use Rattle.std.proofs.Common.{◌∙◌, ⊎_elim, add-zero, arith}
use borrow.Author.Tests.{le-leb, lt-leb, not-true, not-false}
use Rattle.slices.specs.Choice.{le_or_lt}
use Rattle.slices.specs.Splice.{splice}
use Rattle.slices.specs.Splice.Laws.{splice_nil}
use Rattle.states.specs.declared.States.{States}
use Rattle.event_rooms.specs.declared.Counts.{Counts}
use Rattle.records.specs.declared.Record.TheVariants.{Time, Value, Real}
use Rattle.records.specs.Event.{Event, time, value, real, record_of, record_bytes, event_value, event_steps}
use Rattle.records.specs.Event.Laws.{length_time, length_real}
use Rattle.event_rooms.specs.Out.Laws.{ValuesRoom, Appends, room_for, room_for_event, room_fits, counted, appends_full, appends_done, value_full, value_done}

-- ---- the test

module _ (events values : ℕ) (c : Counts) (n m : ℕ) where
  pub room_lacks : events - c.events < n → false ≡ room_for events values c n m
  unfolding room_for
  room_lacks h = rw (lt-leb (c.events + n) events (omega arith))

  pub room_left : c.events ≤ events → c.values ≤ values → n ≤ events - c.events → leb m (values - c.values) ≡ room_for events values c n m
  unfolding room_for
  room_left a b h =
      rw (le-leb (c.events + n) events (omega arith))
      (⊎_elim (λ (l : m ≤ values - c.values). le-leb _ _ l ∙ sym (le-leb (c.values + m) values (omega arith)))
      (λ (l : values - c.values < m). lt-leb _ _ l ∙ sym (lt-leb (c.values + m) values (omega arith))) (le_or_lt m (values - c.values)))

-- ---- a value

pub value_counted : (c : Counts) (n : ℕ) → ◌≡◌ {A = Counts} (record { events = c.events + 13; values = c.values + n; steps = c.steps }) (counted c 13 n 0)
value_counted c n = rw (add-zero c.steps)

-- ---- an event with no value bytes: the value room is not asked

bare : (events values : ℕ) (c : Counts) (n : ℕ) → c.values ≤ values → room_for events c.values c n 0 ≡ room_for events values c n 0
unfolding room_for
bare events values c n used = rw (le-leb (c.values + 0) c.values (omega arith), le-leb (c.values + 0) values (omega arith))

module _ (e : Event) (no : event_value e ≡ []) {k : ℕ} (long : length (record_bytes (record_of 0 e)) ≡ k) (events : List ℕ) (c : Counts) {m : Bool} (t : m ≡ room_for (length events) c.values c k 0)
    (events' values : List ℕ) where
  asked : c.values ≤ length values → room_for_event (length events) (length values) c e ≡ m
  asked used = rw (no, long, t) (sym (bare (length events) (length values) c k used))

  bare_full : m ≡ false → Appends (e ∷ []) events values c events' values None
  bare_full h = record { comes = λ r o w. (appends_full e events values c events' values (asked w.in_values.used ∙ h)).comes r o w }

  bare_done : m ≡ true → (c' : Counts) → c'.events ≡ c.events + k → c'.values ≡ c.values → c'.steps ≡ c.steps + event_steps e
      → events' ≡ splice events c.events (record_bytes (record_of c.values e)) → Appends (e ∷ []) events values c events' values (Some c')
  bare_done h c' n v st p =
      record {
        comes =
            λ r o w. (appends_done e events values c events' values (asked w.in_values.used ∙ h) p (rw no (splice_nil values c.values)) c' (rw long n) (rw no (v ∙ sym (add-zero c.values))) st).comes r o w;
      }

module _ (events : List ℕ) (c : Counts) where
  module _ {m : Bool} (u : ℕ) (t : m ≡ room_for (length events) c.values c 9 0) where
    time_long : length (record_bytes (record_of 0 (time u))) ≡ 9
    unfolding record_of
    time_long = length_time u

    pub time_full : not m ≡ true → (events' values : List ℕ) → Appends (time u ∷ []) events values c events' values None
    unfolding event_value
    time_full h events' values = bare_full (time u) refl time_long events c t events' values (not-true m h)

    pub time_done : not m ≡ false → (events' : List ℕ) → events' ≡ splice events c.events (record_bytes (Time u))
        → (values : List ℕ) → Appends (time u ∷ []) events values c events' values (Some (record { events = c.events + 9; values = c.values; steps = c.steps + 1 }))
    unfolding event_value record_of event_steps
    time_done h events' p values = bare_done (time u) refl time_long events c t events' values (not-false m h) _ refl refl refl p

    pub time_room : not m ≡ false → c.events + 9 ≤ length events
    time_room h = (room_fits (length events) c.values c 9 0 (sym t ∙ not-false m h)).0

  module _ {m : Bool} (reference bits : ℕ) (t : m ≡ room_for (length events) c.values c 13 0) where
    real_long : length (record_bytes (record_of 0 (real reference bits))) ≡ 13
    unfolding record_of
    real_long = length_real reference bits

    pub real_full : not m ≡ true → (events' values : List ℕ) → Appends (real reference bits ∷ []) events values c events' values None
    unfolding event_value
    real_full h events' values = bare_full (real reference bits) refl real_long events c t events' values (not-true m h)

    pub real_done : not m ≡ false → (events' : List ℕ) → events' ≡ splice events c.events (record_bytes (Real reference bits))
        → (values : List ℕ) → Appends (real reference bits ∷ []) events values c events' values (Some (record { events = c.events + 13; values = c.values; steps = c.steps }))
    unfolding event_value record_of event_steps
    real_done h events' p values =
        bare_done (real reference bits) refl real_long events c t events' values (not-false m h) _ refl refl (sym (add-zero c.steps)) p

    pub real_room : not m ≡ false → c.events + 13 ≤ length events
    real_room h = (room_fits (length events) c.values c 13 0 (sym t ∙ not-false m h)).0

-- ---- a value with its bytes

module _ (events values : List ℕ) (c : Counts) {m : Bool} (n : ℕ) (t : m ≡ room_for (length events) (length values) c 13 n) where
  pub copy_room : not m ≡ false → c.values + n ≤ length values
  copy_room h = (room_fits (length events) (length values) c 13 n (sym t ∙ not-false m h)).1

  pub record_room : not m ≡ false → c.events + 13 ≤ length events
  record_room h = (room_fits (length events) (length values) c 13 n (sym t ∙ not-false m h)).0

  pub start_fits : not m ≡ false → ValuesRoom values c → c.values + n ≤ 1073741823
  start_fits h v = omega (arith, copy_room h)

module _ (vector : ℕ) (s : States) (reference : ℕ) (bs : List ℕ) (events values : List ℕ) (c : Counts) (events' values' : List ℕ) {m : Bool} (t : m ≡ room_for (length events) (length values) c 13 (length bs)) where
  pub raw_full : not m ≡ true → Appends (value vector s reference bs ∷ []) events values c events' values' None
  raw_full h = value_full vector s reference bs (length bs) refl events values c events' values' (sym t ∙ not-true m h)

  pub raw_done : not m ≡ false → events' ≡ splice events c.events (record_bytes (Value s reference c.values (length bs))) → values' ≡ splice values c.values bs
      → {c' : Counts} → c' ≡ counted c 13 (length bs) 0 → Appends (value vector s reference bs ∷ []) events values c events' values' (Some c')
  raw_done h p q e = rw e (value_done vector s reference bs (length bs) refl events values c events' values' (sym t ∙ not-false m h) p q)

pub ruleset room_laws = (room_lacks, room_left)

pub ruleset value_laws = (value_counted)

pub ruleset time_laws = (time_full, time_done, time_room)

pub ruleset real_laws = (real_full, real_done, real_room)

pub ruleset raw_laws = (copy_room, record_room, start_fits, raw_full, raw_done)

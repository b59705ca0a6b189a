-- What the proofs of the functions for signals outside vectors search.
-- Assumes nothing.
use Rattle.event_rooms.specs.Put.{Put}
use Rattle.std.specs.Prelude.{ℕ, ◌+◌, ◌-◌, ◌%◌, ◌<◌, ◌≤◌, ◌≡◌, Bool, true, false, not, leb, length, set, get_or, None, Some}
use Rattle.std.proofs.Common.{sym, ap, ◌∙◌, mod-eq_of_lt}
use Rattle.std.proofs.Math.Logic.{⊎_elim}
use mathlib.Core.List.{List, [], ◌∷◌}
use native.Mathlib.Omega.{arith}
use borrow.Author.Tests.{le-leb, lt-leb, eq-eqb, ne_eqb, not-true, not-false}
use Rattle.slices.specs.Choice.{cond_ind, le_or_lt}
use Rattle.slices.specs.Splice.{splice}
use Rattle.slices.specs.Splice.Laws.{set_splice}
use Rattle.numbers.specs.Fixed.{big_bytes}
use Rattle.numbers.specs.Fixed.Laws.{length_big_bytes}
use Rattle.states.specs.declared.States.{States}
use Rattle.states.specs.declared.States.TheVariants.{Two, Nine}
use Rattle.tables.specs.Lists.{nth}
use Rattle.tables.specs.Checks.Laws.{nth_less}
use Rattle.values.specs.Value.{most_of, Suits}
use Rattle.event_rooms.specs.declared.Counts.{Counts}
use Rattle.records.specs.declared.Record.TheVariants.{Value}
use Rattle.records.specs.Event.{value, real, record_bytes}
use Rattle.event_rooms.specs.Out.Laws.{EventsRoom, Appends, room_for, room_fits, counted, value_full, value_done}
use Rattle.gather.specs.Run.{alone}
use Rattle.gather.specs.Writes.{Alone}
use Rattle.plain_writes.specs.Plain.{plain_states, plain_value, Fitting, Plain, AloneAt}

-- ---- its state kind and its bytes

pub says_eight : {kind : ℕ} (v : ℕ) → kind ≡ 5 → 8 ≡ length (plain_value kind v)
unfolding plain_value
says_eight {kind} v e = rw (eq-eqb kind 5 e) (sym (length_big_bytes 8 v))

pub says_one : {kind : ℕ} (v : ℕ) → (kind ≡ 5 → ⊥) → 1 ≡ length (plain_value kind v)
unfolding plain_value
says_one {kind} v n = rw (ne_eqb kind 5 n)

pub ruleset bytes_laws = (says_eight, says_one)

pub says_nine : {kind : ℕ} → kind ≤ 1 → Nine ≡ plain_states kind
says_nine {kind} h = rw (le-leb kind 1 h)

pub says_two : {kind : ℕ} → 1 < kind → Two ≡ plain_states kind
says_two {kind} h = rw (lt-leb kind 1 h)

pub ruleset states_laws = (says_nine, says_two)

module _ {values : List ℕ} {at kind v : ℕ} (q : Fitting values at kind v) where
  pub ask_eight : kind ≡ 5 → at + 8 ≤ length values
  ask_eight e = omega (arith, q.fits, says_eight v e)

  pub ask_one : (kind ≡ 5 → ⊥) → at < length values
  ask_one n = omega (arith, q.fits, says_one v n)

  pub puts_eight : kind ≡ 5 → {values' : List ℕ} → values' ≡ splice values at (big_bytes 8 v) → values' ≡ splice values at (plain_value kind v)
  unfolding plain_value
  puts_eight e p = p ∙ rw (eq-eqb kind 5 e)

  pub puts_one : (kind ≡ 5 → ⊥) → set values at (v % 256) ≡ splice values at (plain_value kind v)
  unfolding plain_value
  puts_one n = set_splice values at (v % 256) (ask_one n) ∙ rw (ne_eqb kind 5 n)

pub ruleset put_laws = (ask_eight, ask_one, puts_eight, puts_one)

-- ---- the event

most_small : (kind : ℕ) → most_of kind ≤ 255
unfolding most_of
most_small kind = cond_ind (leb kind 1) _ _ (λ n. n ≤ 255) (λ _. omega arith) (λ _. cond_ind (leb kind 3) _ _ (λ n. n ≤ 255) (λ _. omega arith) (λ _. omega arith))

-- up to kind 5 it is a value of these states and bytes
module _ (kind reference v : ℕ) where
  byte_is : Suits kind v → kind ≤ 4 → plain_value kind v ≡ v ∷ []
  unfolding plain_value
  byte_is s h =
      let n : kind ≡ 5 → ⊥ = λ e. omega arith in
      rw (ne_eqb kind 5 n) (ap (λ (y : ℕ). y ∷ []) (mod-eq_of_lt (omega (arith, s h, most_small kind))))

  eight_is : kind ≡ 5 → big_bytes 8 v ≡ plain_value kind v
  unfolding plain_value
  eight_is e = rw (eq-eqb kind 5 e)

  pub plain_is : Suits kind v → kind ≤ 5 → alone kind reference v ≡ value 0 (plain_states kind) reference (plain_value kind v)
  unfolding alone
  plain_is s h =
      ⊎_elim (λ (a : kind ≤ 1). rw (le-leb kind 1 a, byte_is s (omega arith)))
      (λ (a : 1 < kind).
      ⊎_elim (λ (b : kind ≤ 4). rw (lt-leb kind 1 a, le-leb kind 4 b, byte_is s b))
      (λ (b : 4 < kind).
      let five : kind ≡ 5 = omega arith in
      rw (lt-leb kind 1 a, lt-leb kind 4 b, eq-eqb kind 5 five) (ap (λ (l : List ℕ). value 0 Two reference l) (eight_is five)))
      (le_or_lt kind 4))
      (le_or_lt kind 1)

module _ {events values : List ℕ} {c : Counts} {kind v : ℕ} (q : Plain events values c kind v) where
  pub ask_used : (c.events ≤ length events) × (c.values ≤ length values)
  ask_used = (q.alone.in_events.used, q.alone.in_values.used)

  module _ {n : ℕ} (long : n ≡ length (plain_value kind v)) {m : Bool} (t : m ≡ room_for (length events) (length values) c 13 n) where
    pub says_full : not m ≡ true → (reference : ℕ) {events' values' : List ℕ} → Appends (alone kind reference v ∷ []) events values c events' values' None
    says_full z reference {events'} {values'} =
        rw (plain_is kind reference v q.alone.suits q.plain)
        (value_full 0 (plain_states kind) reference (plain_value kind v) n long events values c events' values' (sym t ∙ not-true m z))

    module _ (h : not m ≡ false) where
      fits : (c.events + 13 ≤ length events) × (c.values + n ≤ length values)
      fits = room_fits (length events) (length values) c 13 n (sym t ∙ not-false m h)

      pub ask_put : Fitting values c.values kind v
      ask_put = record { fits = omega (arith, fits, long) }

      pub ask_record : c.events + 13 ≤ length events
      ask_record = fits.0

      pub ask_value : c.values + n ≤ 1073741823
      ask_value = omega (arith, fits, q.alone.in_values.few)

      pub says_done : {values' : List ℕ} → values' ≡ splice values c.values (plain_value kind v) → {s : States} → s ≡ plain_states kind
          → {c' : Counts} → c' ≡ counted c 13 n 0
          → (reference : ℕ) {events' : List ℕ} → events' ≡ splice events c.events (record_bytes (Value s reference c.values n))
          → Appends (alone kind reference v ∷ []) events values c events' values' (Some c')
      says_done {values'} p k e reference {events'} a =
          rw (e, plain_is kind reference v q.alone.suits q.plain)
          (value_done 0 (plain_states kind) reference (plain_value kind v) n long events values c events' values' (sym t ∙ not-false m h) (a ∙ rw k) p)

pub ruleset plain_laws = (ask_used, ask_put, ask_record, ask_value, says_full, says_done)

-- ---- a real, or one of the others

module _ {events values : List ℕ} {c : Counts} {kind v : ℕ} (q : Alone events values c kind v) where
  pub ask_plain : kind ≤ 5 → Plain events values c kind v
  ask_plain h = record { alone = q; plain = h }

  pub ask_real : EventsRoom events c
  ask_real = q.in_events

  pub says_real : 5 < kind → {reference : ℕ} {events' : List ℕ} {p : Put} → ((values : List ℕ) → Appends (real reference v ∷ []) events values c events' values p)
      → Appends (alone kind reference v ∷ []) events values c events' values p
  unfolding alone
  says_real h f =
      let a : 1 < kind = omega arith in
      let b : 4 < kind = omega arith in
      let n : kind ≡ 5 → ⊥ = λ e. omega arith in
      rw (lt-leb kind 1 a, lt-leb kind 4 b, ne_eqb kind 5 n) (f values)

pub ruleset alone_laws = (ask_plain, ask_real, says_real)

-- ---- by its id

module _ {kinds refs events values : List ℕ} {c : Counts} {id v : ℕ} (q : AloneAt kinds refs events values c id v) where
  pub ask_some : 1 ≤ id
  ask_some = q.some

  pub ask_kinds : id - 1 < length kinds
  ask_kinds = q.in_kinds

  pub ask_refs : id - 1 < length refs
  ask_refs = q.in_refs

  pub ask_alone : Alone events values c (get_or kinds (id - 1) 0) v
  ask_alone = record { in_events = q.in_events; in_values = q.in_values; suits = rw (nth_less kinds id q.some) at q.suits }

  pub says_at : {events' values' : List ℕ} {p : Put} → Appends (alone (get_or kinds (id - 1) 0) (get_or refs (id - 1) 0) v ∷ []) events values c events' values' p
      → Appends (alone (nth kinds id) (nth refs id) v ∷ []) events values c events' values' p
  says_at f = rw (nth_less kinds id q.some, nth_less refs id q.some) f

pub ruleset at_laws = (ask_some, ask_kinds, ask_refs, ask_alone, says_at)

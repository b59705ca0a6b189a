-- With room for 13 bytes of events and the widest value for each byte of sections, or for every 6 of change records,
-- no event fails to fit.
-- Assumes nothing.
use Rattle.std.specs.Prelude.{ℕ, ◌+◌, ◌*◌, ◌/◌, ◌≤◌, ◌≡◌, ◌≢◌, true, false}
use Rattle.std.proofs.Math.Path.{refl, ap}
use Rattle.std.proofs.Common.{sym, ◌∙◌, inl, inr, arith}
use Rattle.std.proofs.Math.Bool.{false≢true}
use mathlib.Core.List.{List, [], ◌∷◌, ◌++◌, append_assoc}
use Rattle.std.proofs.Math.Nat.{mul-le-mul_right}
use borrow.Author.Tests.{le-leb}
use Rattle.std.proofs.Math.ListN.{length, length-append}
use Rattle.tables.specs.Lists.{Lists, nth}
use Rattle.tables.specs.Good as tables
use Rattle.tables.specs.Good.Laws as good
use Rattle.tables.specs.Check.{Passed}
use Rattle.values.specs.declared.How.{How}
use Rattle.values.specs.Value.Laws.{value_next}
use Rattle.rules.specs.Vector.{acts_early}
use Rattle.rules.specs.Gather.{Act, time, write, step_end, Happening, at, single, of, ends, State, begin, happens}
use Rattle.rules.proofs.Gather.Laws.{happens_append}
use Rattle.records.specs.Event.{Event, record_bytes, record_of, event_value}
use Rattle.records.specs.Event as event
use Rattle.event_rooms.specs.Out.{Rooms, empty, fits}
use Rattle.rules.specs.Scan.{Scan, Says}
use Rattle.gather.specs.Run.{gathers, alone, of_vector, events_of}
use Rattle.gather.specs.Run.Rendered.{values_of, steps_of}
use Rattle.gather.specs.Run.Rendered.Laws.{all_rendered}
use Rattle.gather.specs.Run.Events.{made, later, Overflows}
use Rattle.gather.specs.Run.Times.{times_of, made_steps}
use Rattle.section_scan.specs.Sections.{scan_sections}
use Rattle.changes.specs.Changes.{scan_changes}
use Rattle.answers.specs.Outcome.{Left, Lent}
use Rattle.entries.specs.Entries.{read_sections, read_changes}
use Rattle.entries.specs.Entries.Numbers.{checks_number}
use Rattle.entries.specs.Entries.Reads as reading
use Rattle.entries.specs.Entries.Reads.{checks_of, rooms_of}
use Rattle.entries.specs.Demands.{Demand2, sections_2, changes_2}
use Rattle.room_bounds.specs.Rooms.{widest, section_events, section_values, change_events, change_values}
use Rattle.room_bounds.specs.Rooms.Laws.{Widest, widest_is}
use Rattle.room_bounds.specs.Gathered.{writes_in, shown_in, few_shown, all_sized}
use Rattle.room_bounds.specs.Costs.{costs, covers_said}
use Rattle.room_bounds.specs.Costs.Sections as section
use Rattle.room_bounds.specs.Costs.Changes as change
use Rattle.room_bounds.specs.Sizes.{size_of, rendered_size, size_append, values_append, one_size, one_value, events_size, values_size}

-- ---- the events of some acts, and of one more

module _ (t : Lists) where
  events_append : (a b : List Happening) → events_of t (a ++ b) ≡ events_of t a ++ events_of t b
  unfolding events_of
  events_append [] b = refl
  events_append (at u ∷ a) b = ap (λ l. event.time u ∷ l) (events_append a b)
  events_append (single i x p ∷ a) b = ap (λ l. alone (nth t.kinds i) (nth t.refs i) x ∷ l) (events_append a b)
  events_append (of v i ∷ a) b = rw (events_append a b) (sym (append_assoc (of_vector t v i) _ _))
  events_append (ends ∷ a) b = events_append a b

  made_append : (g : State) (a b : List Act) → made t g (a ++ b) ≡ made t g a ++ made t (later t g a) b
  unfolding made
  made_append g a b = ap (events_of t) (happens_append acts_early (gathers t) g a b) ∙ events_append _ _

  abbrev from : List Act → List Event
  from l = made t (begin (gathers t)) l

  -- of all acts up to the first whose events do not fit, not all fit
  module _ (r : Rooms) (sc : Scan)
      (fit : (before : List Act) (a : Act) (p : ℕ) → Says sc before a p
      → (size_of (from (before ++ a ∷ [])) ≤ r.events)
      × (length (values_of (from (before ++ a ∷ []))) ≤ r.values)) where
    pub never_full : (p : ℕ) → Overflows t r sc (begin (gathers t)) empty p → ⊥
    unfolding empty fits
    never_full p o =
        let m = o.full in
        let all : from (o.before ++ o.act ∷ []) ≡ from o.before ++ (m.before ++ m.event ∷ m.behind) =
        made_append (begin (gathers t)) o.before (o.act ∷ []) ∙ ap (λ l. from o.before ++ l) m.split in
        let (x, u) = all_rendered r (from o.before) empty o.filled o.fill in
        let (y, v) = all_rendered r m.before o.filled m.filled m.fill in
        let f = fit o.before o.act p o.said in
        let a : length o.filled.events ≡ size_of (from o.before) =
        ap length x.events ∙ rendered_size (from o.before) 0 in
        let b : length m.filled.events ≡ length o.filled.events + size_of m.before =
        ap length y.events
        ∙ (length-append o.filled.events _ ∙ ap
        (λ (n : ℕ). length o.filled.events + n) (rendered_size m.before _)) in
        let c : length o.filled.values ≡ length (values_of (from o.before)) = ap length x.values in
        let d : length m.filled.values ≡ length o.filled.values + length (values_of m.before) =
        ap length y.values ∙ length-append o.filled.values _ in
        let e : size_of (from (o.before ++ o.act ∷ [])) ≡ size_of (from o.before)
        + (size_of m.before + (length (record_bytes (record_of 0 m.event)) + size_of m.behind)) =
        ap size_of all ∙ (size_append (from o.before) _ ∙ ap
        (λ (n : ℕ). size_of (from o.before) + n)
        (size_append m.before (m.event ∷ m.behind) ∙ one_size m.before m.event m.behind)) in
        let g : length (values_of (from (o.before ++ o.act ∷ []))) ≡ length (values_of (from o.before))
        + (length (values_of m.before) + (length (event_value m.event) + length (values_of m.behind))) =
        ap (λ l. length (values_of l)) all
        ∙ (values_append (from o.before) _ ∙ ap
        (λ (n : ℕ). length (values_of (from o.before)) + n)
        (values_append m.before (m.event ∷ m.behind) ∙ one_value m.before m.event m.behind)) in
        let h = le-leb (length m.filled.events + length (record_bytes (record_of 0 m.event))) r.events
        (omega arith) in
        let i = le-leb (length m.filled.values + length (event_value m.event)) r.values (omega arith) in
        false≢true (sym m.full ∙ rw (h, i))

-- ---- what acts cost

-- the bytes of a record for each time and each write
unfoldable event_cost : Act → ℕ
event_cost (time u) = 9
event_cost (write i x p) = 13
event_cost step_end = 0

-- .. six times
unfoldable sixfold : Act → ℕ
sixfold (time u) = 54
sixfold (write i x p) = 78
sixfold step_end = 0

-- each write, and six times
unfoldable one : Act → ℕ
one (time u) = 0
one (write i x p) = 1
one step_end = 0

unfoldable six : Act → ℕ
six (time u) = 0
six (write i x p) = 6
six step_end = 0

event_costs : (l : List Act) → costs event_cost l ≡ 13 * writes_in l + 9 * times_of l
unfolding costs event_cost writes_in times_of
event_costs [] = refl
event_costs (time u ∷ l) = omega (arith, event_costs l)
event_costs (write i x p ∷ l) = omega (arith, event_costs l)
event_costs (step_end ∷ l) = omega (arith, event_costs l)

sixfold_costs : (l : List Act) → costs sixfold l ≡ 6 * (13 * writes_in l + 9 * times_of l)
unfolding costs sixfold writes_in times_of
sixfold_costs [] = refl
sixfold_costs (time u ∷ l) = omega (arith, sixfold_costs l)
sixfold_costs (write i x p ∷ l) = omega (arith, sixfold_costs l)
sixfold_costs (step_end ∷ l) = omega (arith, sixfold_costs l)

one_costs : (l : List Act) → costs one l ≡ writes_in l
unfolding costs one writes_in
one_costs [] = refl
one_costs (time u ∷ l) = omega (arith, one_costs l)
one_costs (write i x p ∷ l) = omega (arith, one_costs l)
one_costs (step_end ∷ l) = omega (arith, one_costs l)

six_costs : (l : List Act) → costs six l ≡ 6 * writes_in l
unfolding costs six writes_in
six_costs [] = refl
six_costs (time u ∷ l) = omega (arith, six_costs l)
six_costs (write i x p ∷ l) = omega (arith, six_costs l)
six_costs (step_end ∷ l) = omega (arith, six_costs l)

module _ (t : Lists) (s : List ℕ) where
  pays_events : section.Pays t s event_cost (λ p. 13 * p)
  unfolding event_cost
  pays_events = record {
    spare = 13;
    more = λ i j h. omega arith;
    of_write = λ how id q i v j e. omega (arith, (value_next how (nth t.kinds id) s i refl e).0);
    of_head = λ u i j h. omega arith;
    of_end = λ i j h. omega arith;
    of_time = λ u i j h. omega arith;
  }

  pays_writes : section.Pays t s one (λ p. p)
  unfolding one
  pays_writes = record {
    spare = 0;
    more = λ i j h. omega arith;
    of_write = λ how id q i v j e. omega (arith, (value_next how (nth t.kinds id) s i refl e).0);
    of_head = λ u i j h. omega arith;
    of_end = λ i j h. omega arith;
    of_time = λ u i j h. omega arith;
  }

pays_six : change.Pays sixfold (λ p. 13 * p)
unfolding sixfold
pays_six = record {
  of_write = λ id v q i j h. omega arith;
  of_time = λ u i j h. omega arith;
  of_end =
      λ i j h. omega arith;
}

pays_each : change.Pays six (λ p. p)
unfolding six
pays_each = record {
  of_write = λ id v q i j h. omega arith;
  of_time = λ u i j h. omega arith;
  of_end =
      λ i j h. omega arith;
}

-- ---- so long are the events of some acts

module _ (t : Lists) (l : List Act) where
  made_size : size_of (from t l) ≤ 13 * writes_in l + 9 * times_of l
  unfolding made
  made_size = omega (arith, events, made_steps t (begin (gathers t)) l, few_shown acts_early (gathers t) l)
    where
      events : size_of (from t l) ≡ 13 * shown_in (happens acts_early (gathers t) (begin (gathers t)) l) + 9 * steps_of
          (from t l)
      events = events_size t (happens acts_early (gathers t) (begin (gathers t)) l)

  made_values : (w : ℕ) → Widest t w → length (values_of (from t l)) ≤ writes_in l * w
  unfolding made
  made_values w k =
      let a : length (values_of (from t l)) ≤ shown_in (happens acts_early (gathers t) (begin (gathers t)) l) * w =
      values_size t w k (happens acts_early (gathers t) (begin (gathers t)) l) (all_sized acts_early (gathers t) l) in
      omega (arith, mul-le-mul_right w (few_shown acts_early (gathers t) l))

-- what is refused with 16 passed its checks
module _ (t : Lists) (input : ℕ) (l : Lent) (sc : Scan) where
  passed : (p : ℕ) → reading.Why t input l sc 16 p → checks_of t input l ≡ Passed
  passed p (inl c) = let h = checks_number t input l.events l.values l.room l.list 16 p c in
      absurd (omega arith)
  passed p (inr (c, o)) = c

  wide : (p : ℕ) → reading.Why t input l sc 16 p → Widest t (widest t)
  wide p w = widest_is t (good.good t input l.events l.values l.room l.list (passed p w)).sized

  -- a reading whose events fit is not refused with 16
  not_full : (x : Left) → Demand2 t input l sc x
      → (Widest t (widest t) → (before : List Act) (a : Act) (p : ℕ) → Says sc before a p
      → (size_of (from t (before ++ a ∷ [])) ≤ l.events)
      × (length (values_of (from t (before ++ a ∷ []))) ≤ l.values))
      → x.answer.number ≢ 16
  not_full x d f e =
      never_full t (rooms_of l) sc (f (wide x.answer.place (rw e at (d.refuses (λ z. omega arith)))))
      x.answer.place (d.full e)

-- ---- section reading

module _ (t : Lists) (how : How) (s : List ℕ) (l : Lent) where
  pub sections_room : section_events (length s) ≤ l.events → section_values t (length s) ≤ l.values
      → (read_sections t how s l).answer.number ≢ 16
  sections_room h g =
      not_full t (length s) l (scan_sections t how s) (read_sections t how s l) (sections_2 t how s l)
      (λ w before a p q.
      let c = covers_said event_cost (λ p. 13 * p) (length s) (scan_sections t how s) 0 before a p
      (section.sections_covered t s event_cost (λ p. 13 * p) (pays_events t s) how) q in
      let d = covers_said one
      (λ p. p) (length s) (scan_sections t how s) 0 before a p
      (section.sections_covered t s one (λ p. p) (pays_writes t s) how) q in
      let few : writes_in (before ++ a ∷ []) ≤ length s = omega (arith, d.0, d.1, one_costs (before ++ a ∷ [])) in (
        omega (arith, c.0, c.1, event_costs (before ++ a ∷ []), made_size t (before ++ a ∷ [])),
        omega (arith, made_values t (before ++ a ∷ []) (widest t) w, mul-le-mul_right (widest t) few),
      ))

-- ---- change reading

module _ (t : Lists) (s : List ℕ) (l : Lent) where
  pub changes_room : change_events (length s) ≤ l.events → change_values t (length s) ≤ l.values
      → (read_changes t s l).answer.number ≢ 16
  changes_room h g =
      not_full t (length s) l (scan_changes t s) (read_changes t s l) (changes_2 t s l)
      (λ w before a p q.
      let c = covers_said sixfold
      (λ p. 13 * p) (length s) (scan_changes t s) 0 before a p
      (change.changes_covered t s sixfold (λ p. 13 * p) pays_six) q in
      let d = covers_said six
      (λ p. p) (length s) (scan_changes t s) 0 before a p (change.changes_covered t s six (λ p. p) pays_each) q in
      let few : writes_in (before ++ a ∷ []) ≤ length s / 6 = omega (arith, d.0, d.1, six_costs (before ++ a ∷ [])) in (
        omega (arith, c.0, c.1, sixfold_costs (before ++ a ∷ []), made_size t (before ++ a ∷ [])),
        omega (arith, made_values t (before ++ a ∷ []) (widest t) w, mul-le-mul_right (widest t) few),
      ))

-- What the acts of a scan write, read off a run of the scan over tables in which every signal stands alone:
-- there a write to a signal of one kind makes a value byte, and a write to any other a real.
-- Assumes nothing.
use Prim.Native.Nat.{ℕ, zero, suc, ◌+◌, ◌*◌, ◌≤◌, ◌<◌}
use Rattle.std.specs.Prelude.{◌≡◌, ◌≢◌, cond, eqb, get_or}
use Rattle.std.proofs.Math.Path.{refl, ap}
use Rattle.std.proofs.Common.{sym, ◌∙◌}
use Rattle.std.proofs.Math.Option.{some}
use mathlib.Core.List.{List, [], ◌∷◌, ◌++◌, map}
use native.Mathlib.Omega.{arith}
use borrow.Author.Tests.{le-leb, eq-eqb, eqb-true}
use Rattle.std.proofs.Math.ListN.{length, length-append}
use Rattle.slices.specs.Choice.{cond_ind}
use Rattle.states.specs.declared.States.TheVariants.{Nine}
use Rattle.tables.specs.Lists.{Lists, nth, signals}
use Rattle.values.specs.Value.{most_of}
use Rattle.rules.specs.Vector.{Vec, fresh, acts_early}
use Rattle.rules.specs.Gather.{Act, time, write, step_end, at, State, end_all, toward, does, happens}
use Rattle.records.specs.Event.{Event, value, real, record_of, record_bytes, event_value}
use Rattle.records.specs.Event as events
use Rattle.records.specs.Event.Laws.{length_time, length_value, length_real}
use Rattle.event_rooms.specs.Out.{Rooms, Out, empty, fits, appended, append, append_all}
use Rattle.event_rooms.specs.Out.Laws.{length_record}
use Rattle.rules.specs.Scan.{Scan, say, done, fault, acts, Ends}
use Rattle.gather.specs.Run.{gathers, alone, events_of, went, fitted, acted, after, run}
use Rattle.gather.specs.Run.Rendered.{values_of}
use Rattle.gather.specs.Run.Events.{made}
use Rattle.gather.specs.Run.Events.Laws as running
use Rattle.demand3_bytes.proofs.Trace.{events_append, values_append}
use Rattle.demand3_bytes.specs.Stored.{Fitting}
use Rattle.demand3_bytes.proofs.Suited.{Taken, Suited}

-- ---- lists

AllLe : ℕ → List ℕ → Type 0
AllLe b [] = Unit {0}
AllLe b (x ∷ l) = (x ≤ b) × AllLe b l

all_join : (b : ℕ) (l m : List ℕ) → AllLe b l → AllLe b m → AllLe b (l ++ m)
unfolding AllLe
all_join b [] m p q = q
all_join b (x ∷ l) m p q = (p.0, all_join b l m p.1 q)

all_parts : (b : ℕ) (l m : List ℕ) → AllLe b (l ++ m) → AllLe b l × AllLe b m
unfolding AllLe
all_parts b [] m p = (tt, p)
all_parts b (x ∷ l) m p = let r = all_parts b l m p.1 in ((p.0, r.0), r.1)

nth_nil : (i : ℕ) → nth [] i ≡ 0
unfolding nth
nth_nil zero = refl
nth_nil (suc i) = refl

module _ (f : ℕ → ℕ) where
  at_map : (l : List ℕ) (i : ℕ) → i < length l → get_or (map f l) i 0 ≡ f (get_or l i 0)
  at_map [] i h = absurd (omega arith)
  at_map (x ∷ l) zero h = refl
  at_map (x ∷ l) (suc i) h = at_map l i (omega arith)

  -- within the list
  nth_map : (l : List ℕ) (i : ℕ) → 1 ≤ i → i ≤ length l → nth (map f l) i ≡ f (nth l i)
  unfolding nth
  nth_map l zero a b = absurd (omega arith)
  nth_map l (suc i) a b = at_map l i (omega arith)

  -- an entry that is not 0 stands within the list
  found_map : (l : List ℕ) (i k : ℕ) → k ≢ 0 → get_or l i 0 ≡ k → get_or (map f l) i 0 ≡ f k
  found_map [] i k n e = absurd (n (sym e))
  found_map (x ∷ l) zero k n e = ap f e
  found_map (x ∷ l) (suc i) k n e = found_map l i k n e

  nth_found : (l : List ℕ) (i k : ℕ) → k ≢ 0 → nth l i ≡ k → nth (map f l) i ≡ f k
  unfolding nth
  nth_found l zero k n e = absurd (n (sym e))
  nth_found l (suc i) k n e = found_map l i k n e

module _ (t : Lists) (kind : ℕ) (some-kind : kind ≢ 0) (byte-kind : kind ≤ 4) where
  abbrev b : ℕ
  b = most_of kind

  -- 0 for the kind that is watched, 6 for any other
  seen : ℕ → ℕ
  seen k = cond (eqb k kind) 0 6

  watch : Lists
  watch = record { kinds = map seen t.kinds; refs = []; vecs = []; mins = []; maxs = []; states = []; vec_refs = [] }

  abbrev still : (ℕ → Vec) → State
  still f = record { vecs = f; listed = [] }

  -- ---- the events of an act

  abbrev seen_event : (i x : ℕ) → Event
  seen_event i x = alone (nth watch.kinds i) 0 x

  seen_events : Act → List Event
  seen_events (time u) = events.time u ∷ []
  seen_events (write i x p) = seen_event i x ∷ []
  seen_events step_end = []

  does_watch : (f : ℕ → Vec) (a : Act)
      → (events_of watch (does acts_early (gathers watch) (still f) a).0 ≡ seen_events a) ×
      ((does acts_early (gathers watch) (still f) a).1 ≡ still f)
  unfolding does toward end_all gathers events_of seen_events watch
  does_watch f (time u) = (refl, refl)
  does_watch f (write i x p) = rw (nth_nil i) (rw (nth_nil i), refl)
  does_watch f step_end = (refl, refl)

  -- ---- a run over them

  says : Scan → ℕ
  says (say a p sc) = 1 + says sc
  says (done i) = 0
  says (fault n p) = 0

  -- an event with at most one value byte, in the range
  abbrev Mild : Event → Type 0
  Mild e = AllLe b (event_value e) × (length (event_value e) ≤ 1) × (length (record_bytes (record_of 0 e)) ≤ 13)

  mild_time : (u : ℕ) → Mild (events.time u)
  unfolding event_value record_of AllLe
  mild_time u = (tt, omega arith, omega (arith, length_time u))

  mild_watched : (x : ℕ) → x ≤ b → Mild (value 0 Nine 0 (x ∷ []))
  unfolding event_value record_of AllLe
  mild_watched x l = ((l, tt), omega arith, omega (arith, length_value Nine 0 0 1))

  mild_other : (x : ℕ) → Mild (real 0 x)
  unfolding event_value record_of AllLe
  mild_other x = (tt, omega arith, omega (arith, length_real 0 x))

  mild_alone : (k x : ℕ) → (k ≡ kind → x ≤ b) → Mild (alone (seen k) 0 x)
  unfolding seen alone
  mild_alone k x h =
      cond_ind (eqb k kind) 0 6 (λ z. Mild (alone z 0 x)) (λ e. mild_watched x (h (eqb-true k kind e)))
      (λ e. mild_other x)

  mild_write : (i x : ℕ) → Taken t i x → Mild (seen_event i x)
  unfolding watch signals
  mild_write i x (some_id, most-id, suits) =
      rw (nth_map seen t.kinds i some_id most-id)
      (mild_alone (nth t.kinds i) x (λ e. rw e at (suits (rw e byte-kind))))

  module _ (r : Rooms) where
    Holds : (n : ℕ) → Out → Type 0
    Holds n o = (length o.events + 13 * n ≤ r.events) × (length o.values + n ≤ r.values) × AllLe b o.values

    one_fits : (n : ℕ) (o : Out) (e : Event) → Mild e → Holds (1 + n) o → append r o e ≡ some (appended r o e)
    unfolding append fits Holds
    one_fits n o e (a, c, d) (p, q, s) =
        rw (
          le-leb (length o.events + length (record_bytes (record_of 0 e))) r.events (omega arith),
          le-leb
              (length o.values + length (event_value e)) r.values (omega arith),
        )

    one_holds : (n : ℕ) (o : Out) (e : Event) → Mild e → Holds (1 + n) o → Holds n (appended r o e)
    unfolding appended Holds
    one_holds n o e (a, c, d) (p, q, s) = (
      omega (
        arith,
        length-append o.events (record_bytes (record_of (length o.values) e)),
        length_record
            (length o.values) e,
      ),
      omega (arith, length-append o.values (event_value e)),
      all_join b o.values (event_value e) s a,
    )

    less : (n : ℕ) (o : Out) → Holds (1 + n) o → Holds n o
    unfolding Holds
    less n o (p, q, s) = (omega arith, omega arith, s)

    last : (n : ℕ) (o : Out) → Holds n o → AllLe b o.values
    unfolding Holds
    last n o h = h.2

    abbrev Goes : Scan → (ℕ → Vec) → Out → ℕ → Type 0
    Goes sc f o i = (g : State) × (o' : Out) × (run watch r sc (still f) o ≡ went i g o') × AllLe b o'.values

    acted_watch : (f : ℕ → Vec) (o : Out) (a : Act) → acted watch r (still f) o a ≡ append_all r (seen_events a) (some o)
    unfolding acted
    acted_watch f o a = ap (λ es. append_all r es (some o)) (does_watch f a).0

    after_watch : (f : ℕ → Vec) (a : Act) → after watch r (still f) a ≡ still f
    unfolding after
    after_watch f a = (does_watch f a).1

    -- one act that fits, and then the rest
    then_goes : (a : Act) (p : ℕ) (sc : Scan) (f : ℕ → Vec) (o o₁ : Out) (i : ℕ)
        → append_all r (seen_events a) (some o) ≡ some o₁ → Goes sc f o₁ i → Goes (say a p sc) f o i
    unfolding run fitted
    then_goes a p sc f o o₁ i e (g, o', h, q) = (g, o', rw (acted_watch f o a, e, after_watch f a) h, q)

    ends_here : (j : ℕ) (g : State) (o : Out) → run watch r (done j) g o ≡ went j g o
    unfolding run
    ends_here j g o = refl

    goes : (sc : Scan) (f : ℕ → Vec) (o : Out) (i : ℕ) → Ends i sc → Suited t sc → Holds (says sc) o → Goes sc f o i
    unfolding says Ends Suited seen_events append_all
    goes (say (time u) p sc) f o i d s h =
        then_goes (time u) p sc f o (appended r o (events.time u)) i
        (one_fits (says sc) o (events.time u) (mild_time u) h)
        (goes sc f (appended r o (events.time u)) i d s (one_holds (says sc) o (events.time u) (mild_time u) h))
    goes (say (write j x q) p sc) f o i d s h =
        let m = mild_write j x s.0 in
        then_goes (write j x q) p sc f o (appended r o (seen_event j x)) i (one_fits (says sc) o (seen_event j x) m h)
        (goes sc f (appended r o (seen_event j x)) i d s.1 (one_holds (says sc) o (seen_event j x) m h))
    goes (say step_end p sc) f o i d s h = then_goes step_end p sc f o o i refl (goes sc f o i d s (less (says sc) o h))
    goes (done j) f o i d s h = (still f, o, rw d (ends_here j (still f) o), last 0 o h)
    goes (fault n p) f o i d s h = absurd d

  -- ---- what the acts write

  made_watch : (f : ℕ → Vec) (a : Act) (l : List Act)
      → made watch (still f) (a ∷ l) ≡ seen_events a ++ made watch (still f) l
  unfolding made happens
  made_watch f a l =
      let step = does acts_early (gathers watch) (still f) a in
      events_append watch step.0 (happens acts_early (gathers watch) step.1 l)
      ∙ (ap (λ es. es ++ made watch step.1 l) (does_watch f a).0 ∙ ap (λ g. seen_events a ++ made watch g l)
      (does_watch f a).1)

  seen_kind : seen kind ≡ 0
  unfolding seen
  seen_kind = rw (eq-eqb kind kind refl)

  value_of : (x : ℕ) → AllLe b (values_of (alone 0 0 x ∷ [])) → x ≤ b
  unfolding alone values_of event_value AllLe
  value_of x h = h.0

  byte_of : (i x p : ℕ) → nth t.kinds i ≡ kind → AllLe b (values_of (seen_events (write i x p))) → x ≤ b
  unfolding seen_events watch
  byte_of i x p e h = value_of x (rw (nth_found seen t.kinds i kind some-kind e, seen_kind) at h)

  first_of : (f : ℕ → Vec) (a : Act) (l : List Act) → AllLe b (values_of (made watch (still f) (a ∷ l)))
      → AllLe b (values_of (seen_events a))
  first_of f a l h =
      (all_parts b (values_of (seen_events a)) (values_of (made watch (still f) l))
      (rw (made_watch f a l, values_append watch (seen_events a) (made watch (still f) l)) at h)).0

  rest_of : (f : ℕ → Vec) (a : Act) (l : List Act) → AllLe b (values_of (made watch (still f) (a ∷ l)))
      → AllLe b (values_of (made watch (still f) l))
  rest_of f a l h =
      (all_parts b (values_of (seen_events a)) (values_of (made watch (still f) l))
      (rw (made_watch f a l, values_append watch (seen_events a) (made watch (still f) l)) at h)).1

  fitting_made : (f : ℕ → Vec) (l : List Act) → AllLe b (values_of (made watch (still f) l)) → Fitting t kind l
  unfolding Fitting
  fitting_made f [] h = tt
  fitting_made f (time u ∷ l) h = fitting_made f l (rest_of f (time u) l h)
  fitting_made f (write i x p ∷ l) h =
      ((λ e. byte_of i x p e (first_of f (write i x p) l h)), fitting_made f l (rest_of f (write i x p) l h))
  fitting_made f (step_end ∷ l) h = fitting_made f l (rest_of f step_end l h)

  nothing_held : (n : ℕ) → Holds (record { events = 13 * n; values = n }) n empty
  unfolding Holds empty AllLe
  nothing_held n = (omega arith, omega arith, tt)

  pub acts_fit : (sc : Scan) (i : ℕ) → Ends i sc → Suited t sc → Fitting t kind (acts sc)
  unfolding empty
  acts_fit sc i d s =
      let f : ℕ → Vec = λ v. fresh 0 in
      let r : Rooms = record { events = 13 * says sc; values = says sc } in
      let (g, o, e, h) = goes r sc f empty i d s (nothing_held (says sc)) in
      fitting_made f (acts sc) (rw (running.ran_rendered watch r sc (still f) empty i g o e).0.values at h)

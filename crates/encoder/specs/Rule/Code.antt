-- What the proofs of the time rule search.
-- Assumes nothing.
use Rattle.std.specs.Prelude.{◌≡◌, ℕ, ◌+◌, ◌-◌, ◌≤◌, ◌<◌, Bool, true, false, not, cond, List, [], ◌++◌, ltb, leb, length, None, Some, Ok}
use Rattle.std.proofs.Math.Path.{refl}
use Rattle.std.proofs.Common.{sym, ap, subst, ◌∙◌, append-nil, arith}
use Rattle.std.proofs.Math.Nat.{add-zero}
use borrow.Author.Tests.{lt-ltb, le-ltb, le-leb, eq-eqb, ne_eqb}
use Rattle.slices.specs.Splice.{splice, part}
use Rattle.slices.specs.Splice.Laws.{length_part, part_zero, part_front, part_splice}
use Rattle.states.specs.declared.States.{States}
use Rattle.records.specs.declared.Record.{Record}
use Rattle.records.specs.declared.Record.TheVariants.{Time, Value, Real}
use Rattle.event_streams.specs.Next as records
use Rattle.event_streams.specs.Next.{Event, End, Bad}
use Rattle.event_streams.specs.Stream.{next_event}
use Rattle.event_streams.proofs.Stream.Laws.{past_end, found_event}
use Rattle.encoder.specs.declared.Clock.{Clock}
use Rattle.encoder.specs.declared.Progress.{Progress}
use Rattle.encoder.specs.Going.{Turn}
use Rattle.std.proofs.Common.{Continue, Break}
use Rattle.number_writer.specs.Written.{Written, Done, Refused}
use Rattle.number_writer.specs.Ended as written
use Rattle.number_writer.specs.Ended.{Ended, wrote, Fills}
use Rattle.number_writer.specs.Put.{Puts}
use Rattle.filling.specs.Filling.{Filling, puts_none, filling_start, filling_used}
use Rattle.filling.specs.Filling.Steps.{Step, goes, ends, stops, DoesBy}
use Rattle.filling.specs.Filling.Fuel.{Ahead, on_step, Stepwise, Reading, reading_start, reading_turn}
use Rattle.slices.specs.Choice.{cond_ind}
use Rattle.encoder.specs.Rule.{keeps, kept, ticks, times, Ruled, ruled, refused, one, rule, time_rule}
use Rattle.encoder.specs.Rule.Promise.{Applies}

-- ---- one record

module _ (c : Clock) {u : ℕ} where
  pub ticks_first : c.begun ≡ false → kept u ≡ ticks c (Time u)
  unfolding ticks
  ticks_first b = rw b

  module _ (b : c.begun ≡ true) where
    pub ticks_equal : u ≡ c.last → c ≡ ticks c (Time u)
    unfolding ticks
    ticks_equal e = rw (b, le-ltb c.last u (omega arith), eq-eqb u c.last e)

    pub ticks_smaller : (u ≡ c.last → ⊥) → u < c.last → ◌≡◌ {A = Clock} (record { begun = true; last = c.last; skipping = true }) (ticks c (Time u))
    unfolding ticks
    ticks_smaller n h = rw (b, le-ltb c.last u (omega arith), ne_eqb u c.last n)

    pub ticks_larger : (u ≡ c.last → ⊥) → c.last ≤ u → kept u ≡ ticks c (Time u)
    unfolding ticks
    ticks_larger n h = rw (b, lt-ltb c.last u (omega (arith, n)))

module _ {e : Record} where
  module _ {u : ℕ} (t : e ≡ Time u) where
    pub keeps_later : (c : Clock) → c.begun ≡ true → ltb c.last u ≡ keeps c e
    unfolding keeps
    keeps_later c b = rw (t, b)

    pub keeps_first : (c : Clock) → c.begun ≡ false → true ≡ keeps c e
    unfolding keeps
    keeps_first c b = rw (t, b)

    pub ticks_time : (c : Clock) {d : Clock} → d ≡ ticks c (Time u) → d ≡ ticks c e
    ticks_time c p = rw t p

    pub times_time : 1 ≡ times e
    unfolding times
    times_time = rw t

  module _ {s : States} {a b n : ℕ} (t : e ≡ Value s a b n) where
    pub keeps_value : (c : Clock) → not c.skipping ≡ keeps c e
    unfolding keeps
    keeps_value c = rw t

    pub ticks_value : (c : Clock) → c ≡ ticks c e
    unfolding ticks
    ticks_value c = rw t

    pub times_value : 0 ≡ times e
    unfolding times
    times_value = rw t

  module _ {a b : ℕ} (t : e ≡ Real a b) where
    pub keeps_real : (c : Clock) → not c.skipping ≡ keeps c e
    unfolding keeps
    keeps_real c = rw t

    pub ticks_real : (c : Clock) → c ≡ ticks c e
    unfolding ticks
    ticks_real c = rw t

    pub times_real : 0 ≡ times e
    unfolding times
    times_real = rw t

module _ (c : Clock) (e : Record) {m : Bool} (k : m ≡ keeps c e) (x : ℕ) where
  pub kept_so : m ≡ true → {y : ℕ} → y ≡ x → y ≡ cond (keeps c e) x 0
  kept_so h p = rw (← k, h) p

  pub dropped_so : m ≡ false → 0 ≡ cond (keeps c e) x 0
  dropped_so h = rw (← k, h)

-- ---- one turn

-- a record ends before `next`, and there is something left of the room
pub record Fit (s kept : List ℕ) (p : Progress) (next : ℕ) : Type 0 where
  pub ahead : p.read < next
  pub inside : next ≤ length s
  pub used : p.kept ≤ length kept
  pub few : p.steps ≤ p.read

-- what a record gives: its bytes where it is kept, and the clock and the times kept after it
abbrev pub step_by : List ℕ → Clock × ℕ → (i : ℕ) → records.Next → Step (Clock × ℕ)
step_by s (c, k) i (Event e j) =
    goes (part s i (cond (keeps c e) (j - i) 0)) (ticks c e, k + cond (keeps c e) (times e) 0) j
step_by s (c, k) i End = ends [] i k
step_by s (c, k) i (Bad n p) = stops n p

abbrev pub going : Clock × ℕ → (read count : ℕ) → Turn
going (c, k) j n = Continue (record { clock = c; read = j; kept = n; steps = k })

-- what a record gives is put, or it does not fit; or the stream is over, or refused
pub record Does (s kept : List ℕ) (p : Progress) (n : records.Next) (kept' : List ℕ) (t : Turn) : Type 0 where
  pub does : DoesBy going Break kept p.kept (step_by s (p.clock, p.steps) p.read n) kept' t

module _ {s kept : List ℕ} {p : Progress} {j : ℕ} (f : Fit s kept p j) (n : ℕ) (b : n ≤ j - p.read) where
  size : length (part s p.read n) ≡ n
  size = length_part s p.read n (omega (arith, f.ahead, f.inside))

  module _ {e : Record} (a : n ≡ cond (keeps p.clock e) (j - p.read) 0) where
    pub takes_full : length kept - p.kept < n → Does s kept p (Event e j) kept (Break (Refused 16 j))
    takes_full h = record { does = rw (← a) (None, record { lies = omega (arith, size, f.used) }, refl) }

    pub takes_more : n ≤ length kept - p.kept → {kept' : List ℕ} → kept' ≡ splice kept p.kept (part s p.read n)
        → {c : Clock} → c ≡ ticks p.clock e → {t : ℕ} → t ≡ cond (keeps p.clock e) (times e) 0
        → Does s kept p (Event e j) kept'
        (Continue (record { clock = c; read = j; kept = p.kept + n; steps = p.steps + t }))
    takes_more h w d g =
        let l : Puts kept p.kept (part s p.read n) _ (Some (p.kept + n)) =
        record { lies = (w, rw size, omega (arith, f.used)) } in
        record { does = rw (← a, ← d, ← g) (Some (p.kept + n), l, refl) }

abbrev pub next_at : List ℕ → ℕ → Progress → records.Next
next_at s values p = next_event s values p.clock.begun p.read

module _ (s : List ℕ) (values : ℕ) (p : Progress) (kept : List ℕ) {n : records.Next} (u : n ≡ next_at s values p) where
  does_so : {x : records.Next} → n ≡ x → {kept' : List ℕ} {t : Turn} → Does s kept p x kept' t
      → Does s kept p (next_at s values p) kept' t
  does_so e d = rw (sym u ∙ e) d

  pub one_end : n ≡ End → p.kept ≤ length kept
      → Does s kept p (next_at s values p) kept (Break (Done p.read p.kept p.steps))
  one_end e h = does_so e (record { does = (Some p.kept, puts_none kept p.kept h, refl) })

  pub one_bad : {number place : ℕ} → n ≡ Bad number place
      → Does s kept p (next_at s values p) kept (Break (Refused number place))
  one_bad e = does_so e (record { does = refl })

  module _ {e : Record} {j : ℕ} (v : n ≡ Event e j) where
    pub fit : (p.steps ≤ p.read) × (p.kept ≤ length kept) → Fit s kept p j
    fit a =
        let w = found_event s values p.clock.begun p.read (sym u ∙ v) in
        record { ahead = w.ahead; inside = w.within; used = a.1; few = a.0 }

    pub one_event : {kept' : List ℕ} {t : Turn} → Does s kept p (Event e j) kept' t
        → Does s kept p (next_at s values p) kept' t
    one_event d = does_so v d

-- ---- the rule goes by what the records give

times_few : (e : Record) → times e ≤ 1
unfolding times
times_few (Time u) = omega arith
times_few (Value s a b n) = omega arith
times_few (Real a b) = omega arith

-- a record is one time at most
abbrev Few : Clock × ℕ → ℕ → Type 0
Few (c, k) i = k ≤ i

-- an end, as the rule says it
abbrev ruled_of : Ended → Ruled
ruled_of (wrote i bs k) = ruled i (record { events = bs; steps = k })
ruled_of (written.refused n p) = refused n p

module _ (s : List ℕ) (values room : ℕ) where
  abbrev step_at : Clock × ℕ → ℕ → Step (Clock × ℕ)
  step_at x i = step_by s x i (next_event s values x.0.begun i)

  abbrev says : (fuel : ℕ) → Clock × ℕ → List ℕ → ℕ → Ruled
  says fuel (c, k) held i = rule s values room fuel c (record { events = held; steps = k }) i

  module _ (c : Clock) (k i : ℕ) where
    ahead : k ≤ i → (n : records.Next) → next_event s values c.begun i ≡ n → Ahead Few s i (step_by s (c, k) i n)
    ahead h (Event e j) v =
        let w = found_event s values c.begun i v in
        let b = cond_ind (keeps c e) (times e) 0 (λ t. t ≤ 1) (λ q. times_few e) (λ q. omega arith) in
        (w.ahead, w.within, omega (arith, b, w.ahead))
    ahead h End v = tt
    ahead h (Bad n p) v = tt

    module _ (held : List ℕ) (l : length held ≤ room) (more : Clock × ℕ → List ℕ → ℕ → Ruled) where
      -- a record that is dropped gives no bytes, and those always fit
      event_once : (e : Record) (j : ℕ) → length (part s i (j - i)) ≡ j - i → (q : Bool)
          → cond q
          (cond (leb (length held + (j - i)) room) (more (ticks c e, k + times e) (held ++ part s i (j - i)) j)
          (refused 16 j))
          (more (ticks c e, k) held j)
          ≡ cond (leb (length held + length (part s i (cond q (j - i) 0))) room)
          (more (ticks c e, k + cond q (times e) 0) (held ++ part s i (cond q (j - i) 0)) j) (refused 16 j)
      event_once e j m true = rw m
      event_once e j m false =
          rw (part_zero s i, append-nil held, add-zero k, add-zero (length held), le-leb (length held) room l)

      once : (n : records.Next) → next_event s values c.begun i ≡ n
          → one s values room c (record { events = held; steps = k }) i n (λ c k j. more (c, k.steps) k.events j)
          ≡ on_step ruled_of room held (step_by s (c, k) i n) more
      unfolding one on_step
      once (Event e j) v =
          let w = found_event s values c.begun i v in
          event_once e j (length_part s i (j - i) (omega (arith, w.ahead, w.within))) (keeps c e)
      once End v = rw (append-nil held, add-zero (length held), le-leb (length held) room l)
      once (Bad n p) v = refl

  stepwise : Stepwise Few says s ruled_of step_at room
  unfolding rule one
  stepwise =
      record {
        ahead = λ x i h. ahead x.0 x.1 i h _ refl;
        once = λ fuel x held i l. once x.0 x.1 i held l (λ y o j. says fuel y o j) _ refl;
        last =
            λ x held i h l.
            let e = past_end s values x.0.begun i h in
            (λ y o j. says 0 y o j, rw e (once x.0 x.1 i held l (λ y o j. says 0 y o j) End e));
      }

-- ---- all records

abbrev Here : (s : List ℕ) (values : ℕ) (kept₀ : List ℕ) → Progress → List ℕ → Type 0
Here s values kept₀ p =
    Reading Few (says s values (length kept₀)) s (time_rule s values (length kept₀)) (p.clock, p.steps) p.read

pub record On (s : List ℕ) (values : ℕ) (kept₀ : List ℕ) (p : Progress) (kept : List ℕ) : Type 0 where
  pub filling : Filling (Here s values kept₀ p) kept₀ p.kept kept

pub on_start : (s : List ℕ) (values : ℕ) (kept : List ℕ)
    → On s values kept
    (record { clock = record { begun = false; last = 0; skipping = false }; read = 0; kept = 0; steps = 0 }) kept
unfolding time_rule
on_start s values kept = record { filling = filling_start kept [] refl (reading_start (omega arith)) }

module _ (s : List ℕ) (values : ℕ) (kept₀ kept : List ℕ) (e : Ended) where
  applies : (a : Written) → time_rule s values (length kept₀) ≡ ruled_of e → Fills e kept₀ kept a
      → Applies s values (length kept₀) kept a
  applies (Ok d) w f =
      let (bs, g, x, m, h) = f.says in
      let front = sym (part_front (splice kept₀ 0 bs) (length bs)) ∙ part_splice kept₀ 0 bs (omega arith) in
      record { says = (record { events = bs; steps = d.steps }, w ∙ ap ruled_of g, rw (x, m) front, m, refl) }
  applies (Refused number place) w f = record { says = w ∙ ap ruled_of f.says }

module _ {s : List ℕ} {values : ℕ} {kept₀ : List ℕ} {p : Progress} {kept : List ℕ} (o : On s values kept₀ p kept) where
  pub on_asks : (p.steps ≤ p.read) × (p.kept ≤ length kept)
  on_asks = (o.filling.left.good, filling_used o.filling)

  abbrev Comes : List ℕ → Turn → Type 0
  Comes kept' (Continue q) = On s values kept₀ q kept' × (length s - q.read < length s - p.read)
  Comes kept' (Break a) = Applies s values (length kept₀) kept' a

  module _ {kept' : List ℕ} {t : Turn} (d : Does s kept p (next_at s values p) kept' t) where
    came : Comes kept' t
    came =
        reading_turn (stepwise s values (length kept₀)) o.filling going Break (Comes kept')
        (λ x j c f l. (record { filling = f }, l)) (applies s values kept₀ kept') t d.does

    pub on_more : {q : Progress} → t ≡ Continue q → On s values kept₀ q kept'
    on_more e = (subst (Comes kept') e came).0

    pub on_less : {q : Progress} → t ≡ Continue q → length s - q.read < length s - p.read
    on_less e = (subst (Comes kept') e came).1

    pub on_over : {r : Written} → t ≡ Break r → Applies s values (length kept₀) kept' r
    on_over e = subst (Comes kept') e came

pub ruleset keeps_laws = (keeps_later, keeps_first, keeps_value, keeps_real)

pub ruleset clock_laws = (ticks_first, ticks_equal, ticks_smaller, ticks_larger)

pub ruleset ticks_laws = (ticks_time, ticks_value, ticks_real)

pub ruleset times_laws = (times_time, times_value, times_real)

pub ruleset kept_laws = (kept_so, dropped_so)

pub ruleset take_laws = (takes_full, takes_more)

pub ruleset one_laws = (one_end, one_bad, one_event, fit)

pub ruleset apply_laws = (on_start, on_asks, on_more, on_less, on_over)

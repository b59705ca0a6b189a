-- The time rule fills its room with its course; where the course ends the records alone say.
-- Assumes nothing.
use Prim.Native.Nat.{ℕ, zero, suc, ◌+◌, ◌-◌}
use Rattle.std.specs.Prelude.{◌≡◌, Bool, ◌||◌, List, [], ◌++◌, length, ltb, leb, eqb}
use Rattle.std.proofs.Math.Path.{refl, ap, subst}
use Rattle.std.proofs.Common.{sym, ◌∙◌, arith}
use Rattle.std.proofs.Math.Bool.{true, false, cond}
use Rattle.slices.specs.Choice.{cond_ind}
use Rattle.slices.specs.Splice.{part}
use Rattle.slices.specs.Splice.Laws.{length_part}
use Rattle.records.specs.declared.Record.{Record}
use Rattle.records.specs.declared.Record.TheVariants.{Time, Value, Real}
use Rattle.event_streams.specs.Next.{Next, Event, End, Bad}
use Rattle.event_streams.specs.Stream.{is_time, next_event}
use Rattle.event_streams.proofs.Stream.Laws.{found_event}
use Rattle.number_writer.specs.Ended.{Ended}
use Rattle.number_writer.specs.Ended as ended
use Rattle.encoder.specs.declared.Clock.{Clock}
use Rattle.encoder.specs.Rule.{keeps, ticks, times, Kept, Ruled, one, rule, time_rule}
use Rattle.encoder.specs.Rule as rules
use Rattle.encoder.specs.Rule.Keeping.{unset, nothing}
use Rattle.courses.specs.Course.{Course, adds, done, fault, Ends, Faults, Told, fill}
use Rattle.courses.specs.Ruled.{on_record, rules_from, ruled, on_next, read_from, read}
use Rattle.courses.specs.Ruled.Laws.{ended_of}

module _ (s : List ℕ) (values room : ℕ) where
  ended_cond : (b : Bool) (x y : Ruled) (c d : Course) (k : List ℕ) → ended_of x ≡ fill room c k
      → ended_of y ≡ fill room d k
      → ended_of (cond b x y) ≡ fill room (cond b c d) k
  ended_cond true x y c d k e f = e
  ended_cond false x y c d k e f = f

  fits_cond : (b : Bool) (x : Ruled) (e : Ended) (j : ℕ) → ended_of x ≡ e
      → ended_of (cond b x (rules.refused 16 j)) ≡ cond b e (ended.refused 16 j)
  unfolding ended_of
  fits_cond true x e j h = h
  fits_cond false x e j h = refl

  -- a record that was read is as long as its bytes
  abbrev Long : ℕ → Next → Type 0
  Long i x = (r : Record) (j : ℕ) → x ≡ Event r j → length (part s i (j - i)) ≡ j - i

  long : (begun : Bool) (i : ℕ) → Long i (next_event s values begun i)
  long begun i r j e =
      let f = found_event s values begun i e in
      length_part s i (j - i) (omega (arith, f.ahead, f.within))

  one_fills : (c : Clock) (k : Kept) (i : ℕ) (x : Next) → Long i x
      → (more : Clock → Kept → ℕ → Ruled) (then : Clock → ℕ → ℕ → Course)
      → ((d : Clock) (m : Kept) (j : ℕ) → ended_of (more d m j) ≡ fill room (then d m.steps j) m.events)
      → ended_of (one s values room c k i x more) ≡ fill room (on_record s values c k.steps i x then) k.events
  unfolding one on_record ended_of fill
  one_fills c k i (Event r j) l more then h =
      ended_cond (keeps c r) _ _ (adds (part s i (j - i)) j (then (ticks c r) (k.steps + times r) j))
      (then (ticks c r) k.steps j) k.events
      (fits_cond (leb (length k.events + (j - i)) room) _ _ j (h _ _ j)
      ∙ ap (λ (n : ℕ). cond (leb (length k.events + n) room)
      (fill room (then (ticks c r) (k.steps + times r) j) (k.events ++ part s i (j - i))) (ended.refused 16 j))
      (sym (l r j refl)))
      (h _ _ j)
  one_fills c k i End l more then h = refl
  one_fills c k i (Bad n p) l more then h = refl

  rule_fills : (fuel : ℕ) (c : Clock) (k : Kept) (i : ℕ)
      → ended_of (rule s values room fuel c k i) ≡ fill room (rules_from s values fuel c k.steps i) k.events
  unfolding rule rules_from ended_of fill
  rule_fills zero c k i = refl
  rule_fills (suc fuel) c k i =
      one_fills c k i (next_event s values c.begun i) (long c.begun i) _ (λ d m j. rules_from s values fuel d m j)
      (λ d m j. rule_fills fuel d m j)

  -- the time rule fills its room with its course
  pub ruled_fills : ended_of (time_rule s values room) ≡ fill room (ruled s values) []
  unfolding time_rule ruled
  ruled_fills = rule_fills (length s) unset nothing 0

-- ---- where it ends: as the records alone do

module _ (s : List ℕ) (values : ℕ) where
  -- behind a first record that is read the clock has begun
  ticks_on : (c : Clock) (r : Record) → (is_time r || c.begun) ≡ true → (ticks c r).begun ≡ true
  unfolding ticks is_time
  ticks_on c (Time u) h =
      cond_ind c.begun _ _ (λ (d : Clock). d.begun ≡ true)
      (λ b. cond_ind (ltb c.last u) _ _ (λ (d : Clock). d.begun ≡ true) (λ l. refl)
      (λ l. cond_ind (eqb u c.last) _ _ (λ (d : Clock). d.begun ≡ true) (λ e. b) (λ e. refl)))
      (λ b. refl)
  ticks_on c (Value x a b n) h = h
  ticks_on c (Real a b) h = h

  ticks_begun : (c : Clock) (i : ℕ) (r : Record) (j : ℕ) → next_event s values c.begun i ≡ Event r j
      → (ticks c r).begun ≡ true
  ticks_begun c i r j e = ticks_on c r (found_event s values c.begun i e).may

  -- two courses that end alike, the steps aside
  abbrev pub Alike : (c d : Course) → Type 0
  Alike c d = Told (λ i. Ends i 0 d) (λ n p. Faults n p d) c

  like_adds : (bs : List ℕ) (next : ℕ) (c d : Course) → Alike c d → Alike (adds bs next c) d
  unfolding Ends Faults
  like_adds bs next c d a = record { ends = a.ends; ended = a.ended; faults = a.faults; faulted = a.faulted }

  like_done : (i n : ℕ) → Alike (done i n) (done i 0)
  unfolding Ends Faults
  like_done i n = record {
    ends = λ j m e. (e.0, refl);
    ended = λ j e. (n, (e.0, refl));
    faults =
        λ m p e. absurd e;
    faulted = λ m p e. absurd e;
  }

  like_fault : (n p : ℕ) → Alike (fault n p) (fault n p)
  unfolding Ends
  like_fault n p = record {
    ends = λ i m e. absurd (none i m e);
    ended = λ i e. absurd (none i 0 e);
    faults =
        λ m q e. e;
    faulted = λ m q e. e;
  }
    where
      none : (i m : ℕ) → Ends i m (fault n p) → ⊥
      none i m e = e

  alike_on : (fuel : ℕ) (c : Clock) (n i : ℕ)
      → ((d : Clock) (m j : ℕ) → Alike (rules_from s values fuel d m j) (read_from s values fuel d.begun j))
      → (x : Next) → next_event s values c.begun i ≡ x
      → Alike (on_record s values c n i x (λ d m j. rules_from s values fuel d m j))
      (on_next s values i x (λ j. read_from s values fuel true j))
  unfolding on_record on_next
  alike_on fuel c n i rec (Event r j) e =
      let b = ticks_begun c i r j e in
      cond_ind (keeps c r) _ _ (λ y. Alike y (read_from s values fuel true j))
      (λ h. like_adds _ j _ _
      (subst (λ x. Alike (rules_from s values fuel (ticks c r) (n + times r) j) (read_from s values fuel x j)) b
      (rec (ticks c r) (n + times r) j)))
      (λ h. subst (λ x. Alike (rules_from s values fuel (ticks c r) n j) (read_from s values fuel x j)) b
      (rec (ticks c r) n j))
  alike_on fuel c n i rec End e = like_done i n
  alike_on fuel c n i rec (Bad m p) e = like_fault m p

  alike : (fuel : ℕ) (c : Clock) (n i : ℕ) → Alike (rules_from s values fuel c n i) (read_from s values fuel c.begun i)
  unfolding rules_from read_from
  alike zero c n i = like_done i n
  alike (suc fuel) c n i = alike_on fuel c n i (λ d m j. alike fuel d m j) (next_event s values c.begun i) refl

  pub ruled_reads : Alike (ruled s values) (read s values)
  unfolding ruled read
  ruled_reads = alike (length s) unset 0 0

-- What is shown at step ends fits the fields that name it, where the inputs are bytes; and how many rises there are at the most.
-- Assumes nothing.
use Rattle.std.proofs.Math.Path.{◌≡◌}
use Rattle.std.proofs.Common.{sym, subst, zero-lt-suc, length-take}
use Prim.Native.Nat.{ℕ, zero, suc, ◌+◌, ◌^◌, ◌≤◌, ◌<◌}
use Rattle.std.specs.Prelude.{Bool, List, get_or, leb, eqb}
use Rattle.std.proofs.Math.Bool.{true, false, and-eq-true_iff}
use Rattle.std.proofs.Math.Nat.{pow-le-pow_right}
use native.Mathlib.Omega.{arith}
use borrow.Author.Tests.{leb-true}
use Rattle.std.proofs.Math.ListN.{length}
use Rattle.slices.specs.Choice.{cond_ind}
use Rattle.slices.specs.Splice.{part}
use Rattle.numbers.specs.Fixed.{big}
use Rattle.numbers.specs.Fixed.Laws.{Bytes, big_below, part_bytes}
use Rattle.states.specs.declared.States.{States}
use Rattle.states.specs.declared.States.TheVariants.{Two, Nine}
use Rattle.records.specs.declared.Record.{Record}
use Rattle.records.specs.declared.Record.TheVariants.{Time, Value, Real}
use Rattle.event_streams.specs.Next.{Next}
use Rattle.event_streams.specs.Next as next
use Rattle.event_streams.specs.Stream.{record_at, next_event}
use Rattle.event_streams.proofs.Stream.Laws.{Found, found}
use Rattle.step_ends.specs.declared.Names.{Names}
use Rattle.step_ends.specs.declared.Line.{Line}
use Rattle.step_ends.specs.declared.Line.TheVariants.{Session, Strobe, Close, Other}
use Rattle.step_ends.specs.declared.Watch.{Watch}
use Rattle.step_ends.specs.Seen.{SeenFound, More, Step, End, Bad}
use Rattle.step_ends.specs.Steps.{line_of, two_of, suits, shows, see_time, see_value, see_real, see_event, see_next, see, Steps, step, done, refused, last_step, on_seen, unseen, steps_from, step_ends, rose, rises_from, rises, count}
use Rattle.step_ends.specs.Steps.Laws.{Ahead, see_ahead}

-- a time of 8 bytes, a session of 4
abbrev pub Narrow : Watch → Type 0
Narrow w = (w.time < 256 ^ 8) × (w.session < 256 ^ 4)

abbrev pub Shown : Steps → Type 0
Shown (step w at next rest) = Narrow w × Shown rest
Shown (done read) = Unit {0}
Shown (refused n p) = Unit {0}

-- at most `m` bytes spell less than 256 to that
short : (s : List ℕ) (at n : ℕ) → length (part s at n) ≤ n
unfolding part
short s at n = rw length-take (omega arith)

few : (s : List ℕ) → Bytes s → (at n m : ℕ) → n ≤ m → big (part s at n) < 256 ^ m
few s b at n m h =
    let l : length (part s at n) ≤ m = omega (arith, short s at n) in
    let w : 256 ^ length (part s at n) ≤ 256 ^ m = pow-le-pow_right (zero-lt-suc 255) l in
    omega (arith, big_below (part s at n) (part_bytes s at n b))

-- a time that was read
abbrev Timely : Record → Type 0
Timely (Time u) = u < 256 ^ 8
Timely (Value states reference start n) = Unit {0}
Timely (Real reference bits) = Unit {0}

timely : (s : List ℕ) → Bytes s → (i : ℕ) → Timely (record_at s i)
unfolding record_at
timely s b i = cond_ind (eqb (get_or s i 0) 1) _ _ Timely (λ e. few s b (i + 1) 8 8 (omega arith)) (λ e. cond_ind (eqb (get_or s i 0) 4) _ _ Timely (λ f. tt) (λ f. tt))

-- what is shown after a record
abbrev Shows : SeenFound → Type 0
Shows (More v j) = Narrow v
Shows (Step v j) = Narrow v
Shows End = Unit {0}
Shows (Bad n p) = Unit {0}

module _ (names : Names) (s values : List ℕ) (b : Bytes s) (c : Bytes values) where
  module _ (w : Watch) (h : Narrow w) (i : ℕ) where
    four : (states : States) (n : ℕ) → two_of states n 4 ≡ true → n ≤ 4
    unfolding two_of
    four Two n e = leb-true n 4 ((and-eq-true_iff (leb 1 n) (leb n 4)).0 e).1
    four Nine n e = absurd (let z : ◌≡◌ {A = ℕ} 0 1 = cc in omega arith)

    line_narrow : (line : Line) (states : States) (start n : ℕ) → suits line states n ≡ true → Narrow (shows values w line start n)
    unfolding shows suits
    line_narrow Session states start n e = (h.0, few values c start n 4 (four states n e))
    line_narrow Strobe states start n e = h
    line_narrow Close states start n e = h
    line_narrow Other states start n e = h

    real_shows : (line : Line) (j : ℕ) → Shows (see_real w line i j)
    unfolding see_real
    real_shows Session j = tt
    real_shows Strobe j = tt
    real_shows Close j = tt
    real_shows Other j = h

    event_shows : (r : Record) (j : ℕ) → Timely r → Shows (see_event names values w r i j)
    unfolding see_event see_time see_value
    event_shows (Time u) j t = cond_ind w.begun _ _ Shows (λ e. (t, h.1)) (λ e. (t, h.1))
    event_shows (Value states reference start n) j t =
        cond_ind (suits (line_of names reference) states n) _ _ Shows (λ e. line_narrow (line_of names reference) states start n e) (λ e. tt)
    event_shows (Real reference bits) j t = real_shows (line_of names reference) j

    see_shows : Shows (see names s values w i)
    unfolding see see_next
    see_shows = by (next_event s (length values) w.begun i) (found s (length values) w.begun i)
      where
        by : (x : Next) → Found s (length values) w.begun i x → Shows (see_next names values w i x)
        by (next.Event r j) f = event_shows r j (subst Timely (sym f.is) (timely s b i))
        by next.End f = tt
        by (next.Bad n p) f = tt

  last_shown : (x : Bool) (w : Watch) (i : ℕ) → Narrow w → Shown (last_step x w i)
  unfolding last_step
  last_shown true w i h = (h, tt)
  last_shown false w i h = tt

  shown_from : (fuel : ℕ) (w : Watch) (i : ℕ) → Narrow w → Shown (steps_from names s values fuel w i)
  unfolding steps_from on_seen
  shown_from zero w i h = last_shown w.begun w i h
  shown_from (suc fuel) w i h = by (see names s values w i) (see_shows w h i) (λ v j q. shown_from fuel v j q)
    where
      by : (x : SeenFound) → Shows x → ((v : Watch) (j : ℕ) → Narrow v → Shown (steps_from names s values fuel v j)) → Shown (on_seen w i x (λ v j. steps_from names s values fuel v j))
      by (More v j) q rest = rest v j q
      by (Step v j) q rest = (h, rest v j q)
      by End q rest = last_shown w.begun w i h
      by (Bad n p) q rest = tt

  pub shown : Shown (step_ends names s values)
  unfolding step_ends
  shown = shown_from (length s) unseen 0 (omega arith, omega arith)

-- ---- how many

module _ (names : Names) (s values : List ℕ) where
  last_count : (x : Bool) (w : Watch) (i : ℕ) → count (last_step x w i) ≤ 1
  unfolding last_step count
  last_count true w i = omega arith
  last_count false w i = omega arith

  count_from : (fuel : ℕ) (w : Watch) (i : ℕ) → i ≤ length s → count (steps_from names s values fuel w i) + i ≤ length s + 1
  unfolding steps_from on_seen count
  count_from zero w i l = omega (arith, last_count w.begun w i)
  count_from (suc fuel) w i l = by (see names s values w i) (see_ahead names s values w i) (λ v j m. count_from fuel v j m)
    where
      by : (x : SeenFound) → Ahead s w i x → ((v : Watch) (j : ℕ) → j ≤ length s → count (steps_from names s values fuel v j) + j ≤ length s + 1)
          → count (on_seen w i x (λ v j. steps_from names s values fuel v j)) + i ≤ length s + 1
      by (More v j) a rest = omega (arith, rest v j a.1, a.0)
      by (Step v j) a rest = omega (arith, rest v j a.1, a.0)
      by End a rest = omega (arith, last_count w.begun w i)
      by (Bad n p) a rest = omega arith

  rises_from_lem : (ends : Steps) (before : Watch) → rises_from before ends ≤ count ends
  unfolding rises_from count
  rises_from_lem (step w at next rest) before = cond_ind (rose before w) 1 0 (λ k. k + rises_from w rest ≤ 1 + count rest) (λ e. omega (arith, rises_from_lem rest w)) (λ e. omega (arith, rises_from_lem rest w))
  rises_from_lem (done read) before = omega arith
  rises_from_lem (refused n p) before = omega arith

  -- each step took a record of its own
  pub rises_most : rises (step_ends names s values) ≤ length s + 1
  unfolding rises step_ends
  rises_most = omega (arith, rises_from_lem (steps_from names s values (length s) unseen 0) unseen, count_from (length s) unseen 0 (omega arith))

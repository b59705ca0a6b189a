-- A rise of the strobe makes at most 34 bytes: a fragment, and a closing or what is held; so 12 bytes more than the
-- events have are enough.
-- Assumes nothing.
use Rattle.std.specs.Prelude.{ℕ, zero, suc, ◌+◌, ◌*◌, ◌≤◌, ◌<◌, ◌≡◌, refl, ◌≢◌, Bool, cond, List, [], ◌∷◌, get_or, ltb, eqb}
use Rattle.std.proofs.Common.{sym, ap, ◌∙◌, ltb-true}
use Rattle.std.proofs.Math.Bool.{true, false}
use native.Mathlib.Omega.{arith}
use Rattle.std.proofs.Math.ListN.{length, length-append}
use Rattle.slices.specs.Choice.{cond_ind}
use Rattle.numbers.specs.Fixed.{big_bytes}
use Rattle.tables.specs.Checks.{and_then}
use Rattle.tables.specs.Checks.Laws.{both}
use Rattle.tables.specs.Check.{Check, Passed, Refused}
use Rattle.step_ends.specs.declared.Names.{Names}
use Rattle.step_ends.specs.declared.Watch.{Watch}
use Rattle.step_ends.specs.Steps.{Steps, unseen, step_ends, rose, rises_from, rises}
use Rattle.step_ends.specs.Steps as steps
use Rattle.sessions.specs.declared.Bench.{Bench}
use Rattle.sessions.specs.Places.{is_free, place_of, place_for, counted, dropped, empty}
use Rattle.sessions.specs.Places.Laws.{place_is}
use Rattle.fragment_records.specs.Output.{fragment, closed, held, out_bytes, held_at, held_from, held_of}
use Rattle.fragment_records.specs.Output as output
use Rattle.fragment_records.specs.Output.Laws.{bytes_append}
use Rattle.fragments.specs.Counting.{closes, closed_of}
use Rattle.bench.specs.Bench as benching
use Rattle.courses.specs.Course.{Course, bytes_of, Faults}
use Rattle.courses.specs.Benched.{seats, counts, drops, benched_from, benched}
use Rattle.call_pages.specs.Crowded.Places.{taken, taken_from, live}
use Rattle.call_pages.proofs.Crowded.Places.{counted_live, dropped_live, live_none}
use Rattle.call_pages.proofs.Crowded.Proofs.{benched_crowded}
use Rattle.call_pages.specs.Pages.{bench_checks}
use Rattle.call_pages.proofs.Pages.Proofs.{bench_page}
use Rattle.room_bounds.specs.Rooms.{bench_room}
use Rattle.room_bounds.specs.Calls.{not_full, unless_not}
use Rattle.room_bounds.specs.Calls.Rises.{rises_paid, Never, ends_never}

-- ---- what is held

held_one : (b : Bench) (k : ℕ) → length (output.bytes_of (held_at b k)) ≡ 13 * taken b k
unfolding held_at output.bytes_of out_bytes big_bytes
held_one b k = by (is_free b k)
  where
    by : (x : Bool) → length (output.bytes_of (cond x [] (held (get_or b.sessions k 0) (get_or b.counts k 0) ∷ [])))
        ≡ 13 * cond x 0 1
    by true = refl
    by false = refl

-- what is held takes 13 bytes for each
held_long : (b : Bench) (n k : ℕ) → length (output.bytes_of (held_from b n k)) ≡ 13 * taken_from b n k
unfolding held_from taken_from output.bytes_of
held_long b zero k = refl
held_long b (suc n) k = ap length (bytes_append (held_at b k) (held_from b n (suc k)))
    ∙ (length-append (output.bytes_of (held_at b k)) _ ∙ omega (arith, held_one b k, held_long b n (suc k)))

-- ---- what is written

closes_place : (b : Bench) (w : Watch) → closes b w ≡ true → place_of b w.session < 32
unfolding closes
closes_place b w e = ltb-true (place_of b w.session) 32
    (both (eqb w.close 1) (ltb (place_of b w.session) 32) e).1

fragment_long : (u x : ℕ) → length (out_bytes (fragment u x)) ≡ 13
unfolding out_bytes big_bytes
fragment_long u x = refl

closed_long : (u x n : ℕ) → length (out_bytes (closed u x n)) ≡ 21
unfolding out_bytes big_bytes
closed_long u x n = refl

module _ (w : Watch) (next : ℕ) (more : Bench → Course) (most : ℕ)
    (rec : (c : Bench) → length (bytes_of (more c)) ≤ most + 21 * live c) where
  drops_long : (b : Bench) (x : Bool) → closes b w ≡ x → length (bytes_of (drops x b w next more)) ≤ most + 21 * live b
  unfolding drops bytes_of
  drops_long b true e =
      let l = closes_place b w e in
      omega (
        arith,
        length-append (out_bytes (closed_of b w)) (bytes_of (more (dropped b (place_of b w.session)))),
        closed_long w.time w.session (get_or b.counts (place_of b w.session) 0),
        rec (dropped b (place_of b w.session)),
        dropped_live b (place_of b w.session) (place_is b w.session l).0 l,
      )
  drops_long b false e = rec b

module _ (w : Watch) (at next : ℕ) (more : Bench → Course) (most : ℕ)
    (rec : (c : Bench) → length (bytes_of (more c)) ≤ most + 21 * live c) where
  seats_long : (b : Bench) → length (bytes_of (seats b w at more)) ≤ most + 21 * live b + 21
  unfolding seats bytes_of
  seats_long b =
      cond_ind (ltb (place_for b w.session) 32) _ _ (λ c. length (bytes_of c) ≤ most + 21 * live b + 21)
      (λ e. omega (
        arith,
        rec (counted b (place_for b w.session) w.session),
        counted_live b (place_for b w.session) w.session,
      )) (λ e. omega arith)

  counts_long : (b : Bench) (x : Bool)
      → length (bytes_of (counts x b w at next more)) ≤ 34 * cond x 1 0 + most + 21 * live b
  unfolding counts bytes_of
  counts_long b true = omega (
    arith,
    length-append (out_bytes (fragment w.time w.session)) (bytes_of (seats b w at more)),
    fragment_long w.time w.session,
    seats_long b,
  )
  counts_long b false = omega (arith, rec b)

bench_long : (ends : Steps) (b : Bench) (before : Watch) (k : ℕ)
    → length (bytes_of (benched_from b before k ends)) ≤ 34 * rises_from before ends + 21 * live b
unfolding benched_from rises_from bytes_of
bench_long (steps.step w at next rest) b before k =
    let r = counts_long w at next (λ c. drops (closes c w) c w next (λ d. benched_from d w (k + 1) rest))
    (34 * rises_from w rest)
    (λ c. drops_long w next (λ d. benched_from d w (k + 1) rest) (34 * rises_from w rest)
    (λ d. bench_long rest d w (k + 1)) c (closes c w) refl) b (rose before w) in
    omega arith
bench_long (steps.done read) b before k = omega (arith, length-append (output.bytes_of (held_of b)) [], held_long b 32 0)
bench_long (steps.refused n p) b before k = omega arith

-- ---- no 16 but for the room

module _ (p : ℕ) where
  abbrev None : Course → Type 0
  None c = Faults 16 p c → ⊥

  drops_none : (x : Bool) (b : Bench) (w : Watch) (next : ℕ) (more : Bench → Course) → ((c : Bench) → None (more c))
      → None (drops x b w next more)
  unfolding drops Faults
  drops_none true b w next more h = h (dropped b (place_of b w.session))
  drops_none false b w next more h = h b

  counts_none : (x : Bool) (b : Bench) (w : Watch) (at next : ℕ) (more : Bench → Course)
      → ((c : Bench) → None (more c)) → None (counts x b w at next more)
  unfolding counts seats Faults
  counts_none true b w at next more h =
      cond_ind (ltb (place_for b w.session) 32) _ _ None (λ e. h (counted b (place_for b w.session) w.session))
      (λ e f. omega (arith, f.0))
  counts_none false b w at next more h = h b

  bench_none : (ends : Steps) → Never ends → (b : Bench) (before : Watch) (k : ℕ) → None (benched_from b before k ends)
  unfolding benched_from Faults
  bench_none (steps.step w at next rest) h b before k =
      counts_none (rose before w) b w at next
      _ (λ c. drops_none (closes c w) c w next _ (λ d. bench_none rest h d w (k + 1)))
  bench_none (steps.done read) h b before k = λ f. f
  bench_none (steps.refused n q) h b before k = λ f. h (sym f.0)

then_not : (k l : Check) → ((p : ℕ) → k ≡ Refused 16 p → ⊥) → ((p : ℕ) → l ≡ Refused 16 p → ⊥) → (p : ℕ)
    → and_then k l ≡ Refused 16 p → ⊥
unfolding and_then
then_not Passed l f g p e = g p e
then_not (Refused n q) l f g p e = f p e

module _ (events values : List ℕ) (session strobe close : ℕ) where
  abbrev names : Names
  names = benching.named session strobe close

  benched_long : length (bytes_of (benched names events values)) ≤ length events + 12
  unfolding benched rises
  benched_long = omega (
    arith,
    bench_long (step_ends names events values) empty unseen 0,
    live_none,
    rises_paid names events values,
  )

  -- 428 bytes more than the events have
  pub bench_room_lem : (room : ℕ) → bench_room (length events) ≤ room
      → (benching.bench events values session strobe close room).answer.number ≢ 16
  unfolding benched
  bench_room_lem room h =
      not_full (bench_checks events values session strobe close room) _ _ room (benched names events values)
      (benching.bench events values session strobe close room)
      (bench_page events values session strobe close room)
      (then_not _ _ (unless_not (benching.limits_of events values room) 1 (λ e. omega arith))
      (unless_not (benching.apart session strobe close) 34 (λ e. omega arith)))
      (λ p f. bench_none p (step_ends names events values) (ends_never names events values) empty unseen 0
      ((benched_crowded names events values).faulted 16 p f)) (λ k. omega (arith, benched_long))

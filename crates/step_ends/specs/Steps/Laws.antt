-- What is left of a stream after one record of it.
-- Assumes nothing.
use Rattle.std.specs.Prelude.{◌≡◌, refl, Bool, ◌||◌, List, get_or, leb, eqb}
use Rattle.std.proofs.Math.Path.{sym}
use Rattle.std.proofs.Common.{ap}
use Prim.Native.Nat.{ℕ, zero, suc, ◌+◌, ◌≤◌, ◌<◌}
use Rattle.std.proofs.Math.Bool.{true, false}
use native.Mathlib.Omega.{arith}
use borrow.Author.Tests.{leb-true, eqb-false}
use Rattle.std.proofs.Math.ListN.{length}
use Rattle.slices.specs.Choice.{cond_ind}
use Rattle.records.specs.declared.Record.{Record}
use Rattle.records.specs.declared.Record.TheVariants.{Time, Value, Real}
use Rattle.event_streams.specs.Next.{Next}
use Rattle.event_streams.specs.Stream.{event_length, record_at, is_time, in_values, judged, next_event}
use Rattle.event_streams.proofs.Stream.Laws.{past_end}
use Rattle.step_ends.specs.declared.Names.{Names}
use Rattle.step_ends.specs.declared.Line.{Line}
use Rattle.step_ends.specs.declared.Line.TheVariants.{Session, Strobe, Close, Other}
use Rattle.step_ends.specs.declared.Watch.{Watch}
use Rattle.step_ends.specs.Seen.{SeenFound, More, Step, End, Bad}
use Rattle.step_ends.specs.Steps.{suits, line_of, see_time, see_value, see_real, see_event, see_next, see, Steps, step, done, refused, last_step, on_seen, unseen, steps_from, step_ends}

-- a record was read: it ends behind its first byte, within the input, and one that ends a step finds it open; or all was; or it is refused with one of these numbers
abbrev pub Ahead : List ℕ → Watch → ℕ → SeenFound → Type 0
Ahead s w i (More v j) = (i < j) × (j ≤ length s)
Ahead s w i (Step v j) = (i < j) × (j ≤ length s) × (w.begun ≡ true)
Ahead s w i End = length s ≤ i
Ahead s w i (Bad n p) = (7 ≤ n) × (n ≤ 34)

module _ (names : Names) (s values : List ℕ) (w : Watch) (i : ℕ) where
  real_ahead : (line : Line) (j : ℕ) → (i < j) × (j ≤ length s) → Ahead s w i (see_real w line i j)
  unfolding see_real
  real_ahead Session j h = (omega arith, omega arith)
  real_ahead Strobe j h = (omega arith, omega arith)
  real_ahead Close j h = (omega arith, omega arith)
  real_ahead Other j h = h

  event_ahead : (r : Record) (j : ℕ) → (i < j) × (j ≤ length s) → Ahead s w i (see_event names values w r i j)
  unfolding see_event see_time see_value
  event_ahead (Time u) j h = cond_ind w.begun _ _ (Ahead s w i) (λ e. (h.0, h.1, e)) (λ e. h)
  event_ahead (Value states reference start n) j h = cond_ind (suits (line_of names reference) states n) _ _ (Ahead s w i) (λ e. h) (λ e. (omega arith, omega arith))
  event_ahead (Real reference bits) j h = real_ahead (line_of names reference) j h

  pub see_ahead : Ahead s w i (see names s values w i)
  unfolding see see_next next_event judged
  see_ahead =
      cond_ind (leb (length s) i) _ _ P (λ e. leb-true _ _ e)
      (λ e. cond_ind (eqb (event_length (get_or s i 0)) 0) _ _ P (λ k. (omega arith, omega arith))
      (λ k. cond_ind (leb (i + event_length (get_or s i 0)) (length s)) _ _ P
      (λ l. cond_ind (is_time (record_at s i) || w.begun) _ _ P
      (λ m. cond_ind (in_values (length values) (record_at s i)) _ _ P
      (λ v. event_ahead (record_at s i) (i + event_length (get_or s i 0)) (omega (arith, eqb-false (event_length (get_or s i 0)) 0 k), leb-true _ _ l))
      (λ v. (omega arith, omega arith)))
      (λ m. (omega arith, omega arith)))
      (λ l. (omega arith, omega arith))))
    where
      P : Next → Type 0
      P x = Ahead s w i (see_next names values w i x)

  see_past : length s ≤ i → see names s values w i ≡ End
  unfolding see see_next
  see_past h = rw (past_end s (length values) w.begun i h)

  -- the step ends from here are what the record here brings, and those that are left after it
  pub once : (fuel : ℕ) → length s ≤ i + fuel
      → (f : ℕ) × (length s ≤ i + suc f) × (steps_from names s values fuel w i ≡ on_seen w i (see names s values w i) (λ v j. steps_from names s values f v j))
  unfolding steps_from on_seen
  once zero h = (0, omega arith, sym (ap (λ (x : SeenFound). on_seen w i x (λ v j. steps_from names s values 0 v j)) (see_past (omega arith))))
  once (suc f) h = (f, h, refl)

-- ---- how a stream ends

-- all of it was read, or it is refused with one of these numbers
abbrev pub Ends : List ℕ → Steps → Type 0
Ends s (step w at next rest) = Ends s rest
Ends s (done read) = read ≡ length s
Ends s (refused n p) = (7 ≤ n) × (n ≤ 34)

module _ (names : Names) (s values : List ℕ) where
  last_ends : (x : Bool) (w : Watch) (i : ℕ) → length s ≤ i → i ≤ length s → Ends s (last_step x w i)
  unfolding last_step
  last_ends true w i h l = omega arith
  last_ends false w i h l = omega arith

  steps_end : (fuel : ℕ) (w : Watch) (i : ℕ) → length s ≤ i + fuel → i ≤ length s → Ends s (steps_from names s values fuel w i)
  unfolding steps_from on_seen
  steps_end zero w i h l = last_ends w.begun w i (omega arith) l
  steps_end (suc fuel) w i h l = by (see names s values w i) (see_ahead names s values w i) (λ v j a b. steps_end fuel v j (omega arith) b)
    where
      by : (x : SeenFound) → Ahead s w i x → ((v : Watch) (j : ℕ) → i < j → j ≤ length s → Ends s (steps_from names s values fuel v j)) → Ends s (on_seen w i x (λ v j. steps_from names s values fuel v j))
      by (More v j) a rest = rest v j a.0 a.1
      by (Step v j) a rest = rest v j a.0 a.1
      by End a rest = last_ends w.begun w i a l
      by (Bad n p) a rest = a

  pub ends : Ends s (step_ends names s values)
  unfolding step_ends
  ends = steps_end (length s) unseen 0 (omega arith) (omega arith)

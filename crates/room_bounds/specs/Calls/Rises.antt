-- Every rise of the strobe but the first takes two steps and two events of the strobe, 44 bytes; the first takes one
-- of each, 22.
-- Assumes nothing.
use Prim.Native.Nat.{ℕ, zero, suc, ◌+◌, ◌*◌, ◌≤◌}
use Rattle.std.specs.Prelude.{◌≡◌, ◌≢◌, Bool, ◌&&◌, ◌||◌, List, get_or, eqb}
use Rattle.std.proofs.Math.Path.{refl}
use Rattle.std.proofs.Common.{sym, ◌∙◌, true≢false}
use Rattle.std.proofs.Math.Bool.{true, false, cond}
use native.Mathlib.Omega.{arith}
use borrow.Author.Tests.{eqb-true, eq-eqb}
use Rattle.std.proofs.Math.ListN.{length}
use Rattle.slices.specs.Choice.{cond_ind}
use Rattle.slices.specs.Splice.{part}
use Rattle.numbers.specs.Fixed.{big}
use Rattle.rules.proofs.Vector.Laws.{by_test}
use Rattle.records.specs.declared.Record.{Record}
use Rattle.records.specs.declared.Record.TheVariants.{Time, Value, Real}
use Rattle.event_streams.specs.Next.{Next}
use Rattle.event_streams.specs.Next as next
use Rattle.event_streams.specs.Stream.{event_length, record_at, is_time, next_event}
use Rattle.event_streams.proofs.Stream.Laws.{Stands, Found, found}
use Rattle.encoder.specs.Rule.Keeping.Laws.{next_is}
use Rattle.step_ends.specs.declared.Names.{Names}
use Rattle.step_ends.specs.declared.Line.{Line}
use Rattle.step_ends.specs.declared.Line.TheVariants.{Session, Strobe, Close, Other}
use Rattle.step_ends.specs.declared.Watch.{Watch}
use Rattle.step_ends.specs.Seen.{SeenFound, More, Step, End, Bad}
use Rattle.step_ends.specs.Steps.{line_of, suits, shows, see_time, see_value, see_real, see_event, see_next, see, Steps, step, done, refused, last_step, on_seen, unseen, steps_from, step_ends, rose, rises_from, rises}

-- ---- how long a record is

event_long : (k : ℕ) → event_length k ≢ 0 → 9 ≤ event_length k
unfolding event_length
event_long k =
    cond_ind (eqb k 1) _ _ (λ (n : ℕ). n ≢ 0 → 9 ≤ n) (λ e h. omega arith)
    (λ e. cond_ind (eqb k 2 || eqb k 3 || eqb k 4) 13 0 (λ (n : ℕ). n ≢ 0 → 9 ≤ n) (λ f h. omega arith)
    (λ f h. absurd (h refl)))

other_long : (k : ℕ) → eqb k 1 ≡ false → event_length k ≢ 0 → event_length k ≡ 13
unfolding event_length
other_long k e = rw e
    (cond_ind (eqb k 2 || eqb k 3 || eqb k 4) 13 0 (λ (n : ℕ). n ≢ 0 → n ≡ 13) (λ f h. refl) (λ f h. absurd (h refl)))

time_at : (s : List ℕ) (i : ℕ) → eqb (get_or s i 0) 1 ≡ true → is_time (record_at s i) ≡ true
unfolding record_at is_time
time_at s i e = rw e

module _ (s : List ℕ) (values : ℕ) (begun : Bool) (i : ℕ) {r : Record} {j : ℕ} (w : Stands s values begun i r j) where
  some : event_length (get_or s i 0) ≢ 0
  some e = omega (arith, w.next, w.ahead)

  nine : i + 9 ≤ j
  nine = omega (arith, w.next, event_long (get_or s i 0) some)

  thirteen : is_time r ≡ false → i + 13 ≤ j
  thirteen h = by_test (eqb (get_or s i 0) 1) (λ e. absurd (true≢false (sym (rw (← w.is) at (time_at s i e)) ∙ h)))
      (λ e. omega (arith, w.next, other_long (get_or s i 0) e some))

-- ---- what has been read pays for the rises

-- where a strobe that stands at 0 may rise with one step and one event: twelve bytes more than they have
abbrev lent : ℕ → ℕ
lent b = cond (eqb b 0) 12 0

-- of the open step: its time record, and an event of the strobe where it shows another value than before
abbrev credit : ℕ → Watch → ℕ
credit b w = lent b + cond w.begun (9 + cond (eqb b w.strobe) 0 13) 0

lent_most : (b : ℕ) → lent b ≤ 12
lent_most b = cond_ind (eqb b 0) _ _ (λ (n : ℕ). n ≤ 12) (λ e. omega arith) (λ e. omega arith)

other_most : (b c : ℕ) → cond (eqb b c) 0 13 ≤ 13
other_most b c = cond_ind (eqb b c) _ _ (λ (n : ℕ). n ≤ 13) (λ e. omega arith) (λ e. omega arith)

-- at a step's end the credit pays for a rise, and for what the next step is lent
pays : (b c : ℕ) → 34 * cond (eqb b 0 && eqb c 1) 1 0 + lent c ≤ lent b + (9 + cond (eqb b c) 0 13)
pays b c =
    by_test (eqb b 0)
    (λ p. by_test (eqb c 1) (λ q. rw (eqb-true b 0 p, eqb-true c 1 q) (omega arith))
    (λ q. rw (p, q) (omega (arith, lent_most c))))
    (λ p. by_test (eqb c 0) (λ q. rw (p, eqb-true c 0 q) (rw p (omega arith))) (λ q. rw (p, q) (omega arith)))

module _ (names : Names) (s values : List ℕ) where
  module _ (before w : Watch) (i : ℕ) where
    abbrev b : ℕ
    b = before.strobe

    -- what one record does
    abbrev Moves : SeenFound → Type 0
    Moves (More v j) = (j ≤ length s) × (v.begun ≡ false → v.strobe ≡ b) × (credit b v + i ≤ credit b w + j)
    Moves (Step v j) = (i + 9 ≤ j) × (j ≤ length s) × (w.begun ≡ true) × (v.begun ≡ true) × (v.strobe ≡ w.strobe)
    Moves End = Unit {0}
    Moves (Bad n p) = Unit {0}

    module _ (j : ℕ) (l : j ≤ length s) where
      -- a record that shows the same strobe
      same_moves : (v : Watch) → i ≤ j → v.begun ≡ w.begun → v.strobe ≡ w.strobe → w.begun ≡ true
          → Moves (More v j)
      same_moves v h p q g = (l, (λ f. absurd (true≢false (sym (p ∙ g) ∙ f))), rw (p, q) (omega arith))

      shows_moves : (line : Line) (start n : ℕ) → i + 13 ≤ j → w.begun ≡ true
          → Moves (More (shows values w line start n) j)
      unfolding shows
      shows_moves Session start n h g =
          same_moves (record {
            begun = w.begun;
            time = w.time;
            session = big (part values start n);
            strobe =
                w.strobe;
            close = w.close;
          }) (omega arith) refl refl g
      shows_moves Strobe start n h g =
          (l, (λ f. absurd (true≢false (sym g ∙ f))), rw g (omega (arith, other_most b (big (part values start n)), h)))
      shows_moves Close start n h g =
          same_moves (record {
            begun = w.begun;
            time = w.time;
            session = w.session;
            strobe = w.strobe;
            close =
                big (part values start n);
          }) (omega arith) refl refl g
      shows_moves Other start n h g = same_moves w (omega arith) refl refl g

      real_moves : (line : Line) → i ≤ j → w.begun ≡ true → Moves (see_real w line i j)
      unfolding see_real
      real_moves Session h g = tt
      real_moves Strobe h g = tt
      real_moves Close h g = tt
      real_moves Other h g = same_moves w h refl refl g

    event_moves : (w.begun ≡ false → w.strobe ≡ b) → (r : Record) (j : ℕ)
        → Stands s (length values) w.begun i r j → Moves (see_event names values w r i j)
    unfolding see_event see_time see_value is_time
    event_moves f (Time u) j k =
        cond_ind w.begun _ _ Moves (λ g. (nine s (length values) w.begun i k, k.within, g, refl, refl))
        (λ g. (
          k.within,
          (λ z. absurd (true≢false z)),
          rw (g, f g, eq-eqb b b refl) (omega (arith, nine s (length values) w.begun i k)),
        ))
    event_moves f (Value x reference start n) j k =
        cond_ind (suits (line_of names reference) x n) _ _ Moves
        (λ z. shows_moves j k.within (line_of names reference) start n
        (thirteen s (length values) w.begun i k refl) k.may) (λ z. tt)
    event_moves f (Real reference bits) j k =
        real_moves j k.within (line_of names reference) (omega (arith, k.ahead)) k.may

    see_moves : (w.begun ≡ false → w.strobe ≡ b) → Moves (see names s values w i)
    unfolding see see_next
    see_moves f = by (next_event s (length values) w.begun i) (found s (length values) w.begun i)
      where
        by : (x : Next) → Found s (length values) w.begun i x → Moves (see_next names values w i x)
        by (next.Event r j) k = event_moves f r j k
        by next.End k = tt
        by (next.Bad n p) k = tt

    -- the last step, ended by the input's end
    last_paid : i ≤ length s → (x : Bool) → w.begun ≡ x
        → 34 * rises_from before (last_step x w i) + i ≤ length s + credit b w
    unfolding last_step rises_from rose
    last_paid l true g = rw g (omega (arith, pays b w.strobe))
    last_paid l false g = omega arith

  paid : (fuel : ℕ) (before w : Watch) (i : ℕ) → (w.begun ≡ false → w.strobe ≡ before.strobe) → i ≤ length s
      → 34 * rises_from before (steps_from names s values fuel w i) + i ≤ length s + credit before.strobe w
  unfolding steps_from on_seen rises_from rose
  paid zero before w i f l = last_paid before w i l w.begun refl
  paid (suc fuel) before w i f l =
      by (see names s values w i) (see_moves before w i f) (λ before' v j g k. paid fuel before' v j g k)
    where
      by : (x : SeenFound) → Moves before w i x
          → ((before' v : Watch) (j : ℕ) → (v.begun ≡ false → v.strobe ≡ before'.strobe) → j ≤ length s
          → 34 * rises_from before' (steps_from names s values fuel v j) + j ≤ length s + credit before'.strobe v)
          → 34 * rises_from before (on_seen w i x (λ v j. steps_from names s values fuel v j)) + i ≤ length s + credit
          before.strobe w
      by (More v j) m rec = omega (arith, rec before v j m.1 m.0, m.2)
      by (Step v j) m rec =
          let c : credit w.strobe v ≡ lent w.strobe + 9 =
          rw (m.3, m.4, eq-eqb w.strobe w.strobe refl) (omega arith) in
          let d : credit before.strobe w ≡ lent before.strobe
          + (9 + cond (eqb before.strobe w.strobe) 0 13) = rw m.2 in
          let r = rec w v j (λ e. m.4) m.1 in
          omega (arith, m.0, pays before.strobe w.strobe)
      by End m rec = last_paid before w i l w.begun refl
      by (Bad n p) m rec = omega arith

  -- 34 bytes for each rise are at most 12 more than were read
  pub rises_paid : 34 * rises (step_ends names s values) ≤ length s + 12
  unfolding rises step_ends
  rises_paid = omega (arith, paid (length s) unseen unseen 0 (λ e. refl) (omega arith))

-- ---- a record of the stream is never refused with 16

abbrev Fine : SeenFound → Type 0
Fine (More v j) = Unit {0}
Fine (Step v j) = Unit {0}
Fine End = Unit {0}
Fine (Bad n p) = n ≢ 16

abbrev pub Never : Steps → Type 0
Never (step w at next rest) = Never rest
Never (done read) = Unit {0}
Never (refused n p) = n ≢ 16

module _ (names : Names) (s values : List ℕ) where
  real_fine : (w : Watch) (line : Line) (i j : ℕ) → Fine (see_real w line i j)
  unfolding see_real
  real_fine w Session i j = λ e. omega arith
  real_fine w Strobe i j = λ e. omega arith
  real_fine w Close i j = λ e. omega arith
  real_fine w Other i j = tt

  event_fine : (w : Watch) (r : Record) (i j : ℕ) → Fine (see_event names values w r i j)
  unfolding see_event see_time see_value
  event_fine w (Time u) i j = cond_ind w.begun _ _ Fine (λ e. tt) (λ e. tt)
  event_fine w (Value x reference start n) i j = cond_ind (suits (line_of names reference) x n) _ _ Fine (λ e. tt)
      (λ e z. omega arith)
  event_fine w (Real reference bits) i j = real_fine w (line_of names reference) i j

  see_fine : (w : Watch) (i : ℕ) → Fine (see names s values w i)
  unfolding see see_next
  see_fine w i = next_is s (length values) (λ x. Fine (see_next names values w i x)) w.begun i (λ a. tt)
      (λ a c d. event_fine w (record_at s i) i _) (λ n o. o.2)

  last_never : (x : Bool) (w : Watch) (i : ℕ) → Never (last_step x w i)
  unfolding last_step
  last_never true w i = tt
  last_never false w i = tt

  steps_never : (fuel : ℕ) (w : Watch) (i : ℕ) → Never (steps_from names s values fuel w i)
  unfolding steps_from on_seen
  steps_never zero w i = last_never w.begun w i
  steps_never (suc fuel) w i = by (see names s values w i) (see_fine w i) (λ v j. steps_never fuel v j)
    where
      by : (x : SeenFound) → Fine x → ((v : Watch) (j : ℕ) → Never (steps_from names s values fuel v j))
          → Never (on_seen w i x (λ v j. steps_from names s values fuel v j))
      by (More v j) f rec = rec v j
      by (Step v j) f rec = rec v j
      by End f rec = last_never w.begun w i
      by (Bad n p) f rec = f

  pub ends_never : Never (step_ends names s values)
  unfolding step_ends
  ends_never = steps_never (length s) unseen 0

-- W1 of document 02, sentence by sentence, of the bench's entry, and its proof: each sentence a citation. Demand 1 of document 01 holds of it as of the other entries.
-- That the code gives just `bench` is the promise of the public call.
-- Assumes nothing.
use Rattle.std.proofs.Math.Path.{◌≡◌, ap}
use Rattle.std.proofs.Common.{subst}
use Rattle.std.specs.Prelude.{ℕ, ◌≤◌, true, false, ◌&&◌, List, take}
use Rattle.std.proofs.Math.Bool.{and-eq-true_iff}
use native.Mathlib.Omega.{arith}
use borrow.Author.Tests.{leb-true}
use Rattle.std.proofs.Math.ListN.{length}
use Rattle.slices.specs.Choice.{cond_ind}
use Rattle.numbers.specs.Fixed.Laws.{Bytes}
use Rattle.tables.specs.Checks.{within_limit}
use Rattle.number_writer.specs.Ended.{Ended, wrote}
use Rattle.number_writer.specs.Ended as ended
use Rattle.step_ends.specs.Steps.{Steps, unseen, step_ends, count}
use Rattle.sessions.specs.Places.{empty}
use Rattle.fragment_records.specs.Output.{Out, records_in}
use Rattle.fragments.specs.Counting.{count_fragments}
use Rattle.fragments.specs.Theorems.{Accounts, Closes, Good, benches, Every}
use Rattle.fragments.specs.Theorems.Proofs.{accounts, reads, closes, good_always}
use Rattle.answers.specs.Outcome.{Outcome, accepted, refused, answer, event_bytes, value_bytes, LeftKept, leaves_kept}
use Rattle.answers.specs.Outcome.Laws.{Allowed, padded_front, answer_events, answer_values, allowed_values, acceptance_is}
use Rattle.entries.specs.Demands.{Answers, Output, answers_of, events_of}
use Rattle.answers.specs.Filled.{filled}
use Rattle.bench.specs.Bench.{limits_of, apart, named, benched, bench}

-- the bytes that an answer reports
abbrev pub reported : LeftKept → List ℕ
reported x = take x.answer.events x.kept

module _ (events values : List ℕ) (session strobe close room : ℕ) where
  -- the step ends of the events, and what the three show there: no bench is in sight
  abbrev pub ends_of : Steps
  ends_of = step_ends (named session strobe close) events values

  pub record Demand1 (x : LeftKept) : Type 0 where
    pub answers : Answers 34 (length events) x.answer
    pub output : Output x.answer x.answer.events room x.kept
    -- "A request's other output counts as event bytes, with 0 value bytes; ..
    pub no_values : x.answer.values ≡ 0
    -- "Each public entry does its own checking."
    pub limits : limits_of events values room ≡ false → (x.answer.number ≡ 1) × (x.answer.place ≡ 0)
    -- "34 two references equal (place 0, after 1)"
    pub equal : limits_of events values room ≡ true → apart session strobe close ≡ false → (x.answer.number ≡ 34) × (x.answer.place ≡ 0)

  -- when it is accepted and where it is refused: `call_pages` BenchPage
  pub record BenchDemand (x : LeftKept) : Type 0 where
    -- "At each step's end where the strobe stands at 1 and stood at 0 at the previous step's end .., one fragment is counted to the session value then shown";
    -- "Where close stands at 1 at step end the shown session is dropped after any counting, and its place is used again": the definition's bytes
    pub bytes : x.answer.number ≡ 0 → count_fragments (named session strobe close) events values room ≡ wrote x.answer.read (reported x) x.answer.steps
    -- "The counts held plus those handed out on closing equal the rises of the strobe between step ends, a number defined from the events alone", and so do the fragment records;
    -- each count is that of its own session's fragments since it was last closed. All this of the records that are read from the bytes reported; the inputs are bytes, as every input is
    pub accounted : Bytes events → Bytes values → x.answer.number ≡ 0 → Accounts ends_of (reported x) (records_in (reported x))
    -- .. and so some records of which these are the bytes, whatever numbers the inputs are
    pub written : x.answer.number ≡ 0 → (outs : List Out) × Accounts ends_of (reported x) outs
    -- "The bench state holds at most 32 live sessions and their counts", and live sessions are distinct, at every step's end, of a refused bench too
    pub live : Every Good (benches room empty 0 unseen ends_of)
    -- all is read
    pub read : x.answer.number ≡ 0 → x.answer.read ≡ length events
    -- .. steps are then time records read": each opens a step, and each step ends
    pub steps : x.answer.number ≡ 0 → x.answer.steps ≡ count ends_of

  -- ---- their proofs

  abbrev result : Outcome
  result = benched events values session strobe close room

  abbrev stream : Ended
  stream = count_fragments (named session strobe close) events values room

  filled_allowed : (e : Ended) → Closes (length events) room ends_of e → Allowed 34 (length events) room 0 (filled e)
  unfolding Allowed filled
  filled_allowed (wrote i bs n) c = (omega (arith, c.0), c.1, omega arith)
  filled_allowed (ended.refused n p) c = (omega (arith, c.1), c.2)

  allowed : Allowed 34 (length events) room 0 result
  unfolding benched Allowed
  allowed =
      cond_ind (limits_of events values room) _ _ (Allowed 34 (length events) room 0)
      (λ l. cond_ind (apart session strobe close) _ _ (Allowed 34 (length events) room 0) (λ a. filled_allowed stream (closes (named session strobe close) events values room)) (λ a. (omega arith, omega arith)))
      (λ l. (omega arith, omega arith))

  over : limits_of events values room ≡ false → result ≡ refused 1 0
  unfolding benched
  over l = rw l

  alike : limits_of events values room ≡ true → apart session strobe close ≡ false → result ≡ refused 34 0
  unfolding benched
  alike l a = rw (l, a)

  pub demand1 : Demand1 (bench events values session strobe close room)
  unfolding bench leaves_kept answer
  demand1 = record {
    answers = answers_of 34 (length events) room 0 result allowed;
    output = events_of 34 (length events) room 0 result allowed;
    no_values = omega (arith, answer_values result, allowed_values 34 (length events) room 0 result allowed);
    limits = λ l. (ap (λ o. (answer o).number) (over l), ap (λ o. (answer o).place) (over l));
    equal = λ l a. (ap (λ o. (answer o).number) (alike l a), ap (λ o. (answer o).place) (alike l a));
  }

  filled_accepted : (e : Ended) (i : ℕ) (es vs : List ℕ) (n : ℕ) → filled e ≡ accepted i es vs n → e ≡ wrote i es n
  unfolding filled
  filled_accepted (wrote j bs m) i es vs n q = let a : j ≡ i = cc in let b : bs ≡ es = cc in let d : m ≡ n = cc in rw (a, b, d)
  filled_accepted (ended.refused m p) i es vs n q = let z : ◌≡◌ {A = ℕ} 0 1 = cc in absurd (omega arith)

  came : (i : ℕ) (es vs : List ℕ) (n : ℕ) → result ≡ accepted i es vs n → stream ≡ wrote i es n
  unfolding benched
  came i es vs n =
      cond_ind (limits_of events values room) _ _ (λ o. o ≡ accepted i es vs n → stream ≡ wrote i es n)
      (λ l. cond_ind (apart session strobe close) _ _ (λ o. o ≡ accepted i es vs n → stream ≡ wrote i es n) (λ a q. filled_accepted stream i es vs n q)
      (λ a q. let z : ◌≡◌ {A = ℕ} 0 1 = cc in absurd (omega arith)))
      (λ l q. let z : ◌≡◌ {A = ℕ} 0 1 = cc in absurd (omega arith))

  -- what is accepted is within its limits
  small : limits_of events values room ≡ true → length events ≤ 1073741823
  unfolding limits_of within_limit
  small l = leb-true (length events) 1073741823 ((and-eq-true_iff (within_limit (length events)) (within_limit (length values))).0 ((and-eq-true_iff (within_limit (length events) && within_limit (length values)) (within_limit room)).0 l).0).0

  accepted_small : (i : ℕ) (es vs : List ℕ) (n : ℕ) → result ≡ accepted i es vs n → length events ≤ 1073741823
  unfolding benched
  accepted_small i es vs n =
      cond_ind (limits_of events values room) _ _ (λ o. o ≡ accepted i es vs n → length events ≤ 1073741823) (λ l q. small l) (λ l q. let z : ◌≡◌ {A = ℕ} 0 1 = cc in absurd (omega arith))

  reported_is : reported (leaves_kept room result) ≡ event_bytes result
  unfolding leaves_kept
  reported_is = padded_front room (event_bytes result) (answer result).events (answer_events result)

  module _ (h : (answer result).number ≡ 0) where
    accepts : result ≡ accepted (answer result).read (event_bytes result) (value_bytes result) (answer result).steps
    accepts = acceptance_is 34 (length events) room 0 result allowed h

    wrote_is : stream ≡ wrote (answer result).read (event_bytes result) (answer result).steps
    wrote_is = came (answer result).read (event_bytes result) (value_bytes result) (answer result).steps accepts

    closed : Closes (length events) room ends_of (wrote (answer result).read (event_bytes result) (answer result).steps)
    closed = subst (Closes (length events) room ends_of) wrote_is (closes (named session strobe close) events values room)

    counted : (outs : List Out) × Accounts ends_of (event_bytes result) outs
    counted = accounts (named session strobe close) events values room (answer result).read (answer result).steps (event_bytes result) wrote_is

    counted_in : Bytes events → Bytes values → Accounts ends_of (event_bytes result) (records_in (event_bytes result))
    counted_in b c =
        reads (named session strobe close) events values room (answer result).read (answer result).steps (event_bytes result) wrote_is b c
        (omega (arith, accepted_small (answer result).read (event_bytes result) (value_bytes result) (answer result).steps accepts))

  pub demand : BenchDemand (bench events values session strobe close room)
  unfolding bench leaves_kept
  demand = record {
    bytes = λ h. rw reported_is (wrote_is h);
    accounted = λ b c h. rw reported_is (counted_in h b c);
    written = λ h. rw reported_is (counted h);
    live = good_always (named session strobe close) events values room;
    read = λ h. (closed h).0;
    steps = λ h. (closed h).2;
  }

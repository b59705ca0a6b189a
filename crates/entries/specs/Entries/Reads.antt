-- What the two readings do: when a reading is accepted, what it then reports, and why it is refused.
-- Assumes nothing.
use Rattle.std.specs.Prelude.{ℕ, ◌≤◌, ◌≡◌, refl, ◌≢◌, ◌⊎◌, List, length}
use Rattle.std.proofs.Common.{◌∙◌}
use Rattle.std.proofs.Math.Logic.{inl, inr}
use Rattle.std.proofs.Math.Option.{some}
use Rattle.std.proofs.Math.Nat.{zero-add}
use native.Mathlib.Omega.{arith}
use Rattle.tables.specs.Lists.{Lists}
use Rattle.tables.specs.Checks.{checks}
use Rattle.tables.specs.Check.{Check, Passed, Refused}
use Rattle.rules.specs.Gather.{State, begin}
use Rattle.records.specs.Event.{Event}
use Rattle.event_rooms.specs.Out.{Rooms, Out, empty, append_all}
use Rattle.rules.specs.Scan.{Scan, acts, Ends}
use Rattle.gather.specs.Run.{gathers, Went, went, out, run_all}
use Rattle.gather.specs.Run.Rendered.{rendered, values_of, steps_of, Within}
use Rattle.gather.specs.Run.Events.{made, Overflows, Refusal}
use Rattle.gather.specs.Run.Events.Laws as running
use Rattle.answers.specs.Outcome.{Outcome, accepted, refused, answer, event_bytes, value_bytes, Lent}
use Rattle.entries.specs.Entries.{checked, outcome, reads}
use Rattle.answers.specs.Outcome.Laws.{Allowed, acceptance_is, refusal_is}
use Rattle.entries.specs.Entries.Numbers.{checks_number}
use Rattle.entries.specs.Entries.Scanned.{Scanned}

-- the entry's own checks
abbrev pub checks_of : Lists → ℕ → Lent → Check
checks_of t input l = checks t input l.events l.values l.room l.list

abbrev pub rooms_of : Lent → Rooms
rooms_of l = record { events = l.events; values = l.values }

-- the events that a scan's acts make, from the beginning
abbrev pub events_from : Lists → Scan → List Event
events_from t sc = made t (begin (gathers t)) (acts sc)

checked_accepted : (c : Check) (o : Outcome) (i : ℕ) (es vs : List ℕ) (n : ℕ) → checked c o ≡ accepted i es vs n → (c ≡ Passed) × (o ≡ accepted i es vs n)
unfolding checked
checked_accepted Passed o i es vs n e = (refl, e)
checked_accepted (Refused m p) o i es vs n e = let z : ◌≡◌ {A = ℕ} 0 1 = cc in absurd (omega arith)

checked_refused : (c : Check) (o : Outcome) (n p : ℕ) → checked c o ≡ refused n p → (c ≡ Refused n p) ⊎ ((c ≡ Passed) × (o ≡ refused n p))
unfolding checked
checked_refused Passed o n p e = inr (refl, e)
checked_refused (Refused m q) o n p e = inl (let a : m ≡ n = cc in let b : q ≡ p = cc in rw (a, b))

outcome_accepted : (w : Went) (i : ℕ) (es vs : List ℕ) (n : ℕ) → outcome w ≡ accepted i es vs n → (g : State) × (o : Out) × (w ≡ went i g o) × (es ≡ o.events) × (vs ≡ o.values) × (n ≡ o.steps)
unfolding outcome
outcome_accepted (went j g o) i es vs n e = let a : j ≡ i = cc in (g, o, rw a, (cc), (cc), (cc))
outcome_accepted (out m p) i es vs n e = let z : ◌≡◌ {A = ℕ} 0 1 = cc in absurd (omega arith)

outcome_refused : (w : Went) (n p : ℕ) → outcome w ≡ refused n p → w ≡ out n p
unfolding outcome
outcome_refused (went j g o) n p e = let z : ◌≡◌ {A = ℕ} 0 1 = cc in absurd (omega arith)
outcome_refused (out m q) n p e = let a : m ≡ n = cc in let b : q ≡ p = cc in rw (a, b)

all_within : (l : Lent) (es vs : List ℕ) (o : Out) → es ≡ o.events → vs ≡ o.values → Within (rooms_of l) o → (length es ≤ l.events) × (length vs ≤ l.values)
all_within l es vs o a b w = rw (a, b) w

module _ (t : Lists) (input : ℕ) (l : Lent) (sc : Scan) where
  -- an accepted reading: its scan was read to the end, and it reports the events of the scanned acts
  pub record Accepted (i : ℕ) (es vs : List ℕ) (n : ℕ) : Type 0 where
    pub passed : checks_of t input l ≡ Passed
    pub ended : Ends i sc
    pub events : es ≡ rendered 0 (events_from t sc)
    pub values : vs ≡ values_of (events_from t sc)
    pub steps : n ≡ steps_of (events_from t sc)
    pub within : (length es ≤ l.events) × (length vs ≤ l.values)

  pub read_accepted : (i : ℕ) (es vs : List ℕ) (n : ℕ) → reads t input l sc ≡ accepted i es vs n → Accepted i es vs n
  unfolding reads run_all empty
  read_accepted i es vs n e =
      let (c, f) = checked_accepted (checks_of t input l) _ i es vs n e in
      let (g, o, w, a, b, d) = outcome_accepted (run_all t (rooms_of l) sc) i es vs n f in
      let ran = running.ran t (rooms_of l) sc (begin (gathers t)) empty i g o w in
      let (r, q) = running.ran_rendered t (rooms_of l) sc (begin (gathers t)) empty i g o w in
      record {
        passed = c;
        ended = ran.ended;
        events = a ∙ r.events;
        values = b ∙ r.values;
        steps = d ∙ (r.steps ∙ zero-add _);
        within = all_within l es vs o a b (q (omega arith, omega arith));
      }

  -- why a reading is refused: by the checks, by the scan, or with 16 because an event does not fit
  abbrev pub Why : (n p : ℕ) → Type 0
  Why n p = (checks_of t input l ≡ Refused n p) ⊎ ((checks_of t input l ≡ Passed) × Refusal t (rooms_of l) sc (begin (gathers t)) empty n p)

  pub read_refused : (n p : ℕ) → reads t input l sc ≡ refused n p → Why n p
  unfolding reads run_all
  read_refused n p e = go (checked_refused (checks_of t input l) _ n p e)
    where
      go : (checks_of t input l ≡ Refused n p) ⊎ ((checks_of t input l ≡ Passed) × (outcome (run_all t (rooms_of l) sc) ≡ refused n p)) → Why n p
      go (inl c) = inl c
      go (inr (c, f)) = inr (c, running.refused t (rooms_of l) sc (begin (gathers t)) empty n p (outcome_refused _ n p f))

  -- a reading is accepted wherever the tables are good, the scan is read to its end and all events fit
  pub read_accepts : checks_of t input l ≡ Passed → (i : ℕ) → Ends i sc → (o : Out) → append_all (rooms_of l) (events_from t sc) (some empty) ≡ some o → reads t input l sc ≡ accepted i o.events o.values o.steps
  unfolding reads checked run_all outcome
  read_accepts c i d o h = rw (c, running.runs t (rooms_of l) sc (begin (gathers t)) empty i o d h)

  -- and what its checks refuse is refused so
  pub read_checks : (n p : ℕ) → checks_of t input l ≡ Refused n p → reads t input l sc ≡ refused n p
  unfolding reads checked
  read_checks n p c = rw c

  pub reading_refused : (answer (reads t input l sc)).number ≢ 0 → Why (answer (reads t input l sc)).number (answer (reads t input l sc)).place
  reading_refused h = read_refused _ _ (refusal_is (reads t input l sc) h)

  module _ (w : Scanned input sc) where
    why_number : (n p : ℕ) → Why n p → (1 ≤ n) × (n ≤ 20)
    why_number n p (inl c) = let h = checks_number t input l.events l.values l.room l.list n p c in (h.0, omega arith)
    why_number n p (inr (c, inl (f, o))) = let h = w.number n p f in (omega arith, omega arith)
    why_number n p (inr (c, inr (e, o))) = (omega arith, omega arith)

    allowed : (o : Outcome) → reads t input l sc ≡ o → Allowed 20 input l.events l.values o
    unfolding Allowed
    allowed (accepted i es vs n) e = let a = read_accepted i es vs n e in (w.end i a.ended, a.within.0, a.within.1)
    allowed (refused n p) e = why_number n p (read_refused n p e)

    pub read_allowed : Allowed 20 input l.events l.values (reads t input l sc)
    read_allowed = allowed (reads t input l sc) refl

    -- by its number an answer says whether it is an acceptance
    pub reading_accepted : (answer (reads t input l sc)).number ≡ 0
        → Accepted (answer (reads t input l sc)).read (event_bytes (reads t input l sc)) (value_bytes (reads t input l sc)) (answer (reads t input l sc)).steps
    reading_accepted h = read_accepted _ _ _ _ (acceptance_is 20 input l.events l.values (reads t input l sc) read_allowed h)

    -- 16 is given for nothing else
    only_16 : (p : ℕ) → Why 16 p → Overflows t (rooms_of l) sc (begin (gathers t)) empty p
    only_16 p (inl c) = let h = checks_number t input l.events l.values l.room l.list 16 p c in absurd (omega arith)
    only_16 p (inr (c, inl (f, o))) = absurd ((w.number 16 p f).2 refl)
    only_16 p (inr (c, inr (e, o))) = o

    pub reading_full : (answer (reads t input l sc)).number ≡ 16 → Overflows t (rooms_of l) sc (begin (gathers t)) empty (answer (reads t input l sc)).place
    reading_full h = only_16 _ (rw h at (reading_refused (λ z. omega arith)))

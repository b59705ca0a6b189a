-- Demands 1, 2 and 3 of the three entries, sentence by sentence, and their proof: each sentence a citation.
-- "No signal table, input or buffer length stops it", and it "doesn't touch the inputs": an entry is a total function from the inputs and the lengths of the lent buffers
-- to the answer and what these buffers hold. That the code gives just this is the promise of each public call.
-- An answer is an acceptance where its number is 0. `events_from t sc` are the events that the acts of a scan make by the gathering rules, from the beginning.
-- Assumes nothing.
use Rattle.std.specs.Prelude.{ℕ, ◌-◌, ◌≤◌, ◌≡◌, refl, ◌≢◌, false, length, take, drop, replicate}
use Rattle.std.proofs.Math.Path.{ap}
use Rattle.std.proofs.Common.{◌∙◌, arith}
use Rattle.std.proofs.Math.Option.{some}
use mathlib.Core.List.{List, [], Sublistᴰ}
use Rattle.tables.specs.Lists.{Lists}
use Rattle.tables.specs.Check.{Passed, Refused}
use Rattle.values.specs.declared.How.{How}
use Rattle.rules.specs.Vector.{acts_early}
use Rattle.rules.specs.Gather.{Good, begin}
use Rattle.rules.specs.Steps.Owned.{history_of}
use Rattle.rules.specs.Once.{Single}
use Rattle.rules.proofs.Once.{rising_single}
use Rattle.rules.specs.Demand3.{Demand3}
use Rattle.rules.proofs.Demand3.{demand3}
use Rattle.event_rooms.specs.Out.{Out, empty, append_all}
use Rattle.rules.specs.Scan.{Scan, acts, Ends}
use Rattle.gather.specs.Run.{gathers}
use Rattle.gather.specs.Run.Rendered.{rendered, values_of, steps_of}
use Rattle.gather.specs.Run.Events.{Overflows}
use Rattle.gather.specs.Run.Times.{times_of, made_steps}
use Rattle.gather.specs.Run.Good.{gathers_good}
use Rattle.section_scan.specs.Sections.{scan_sections}
use Rattle.section_scan.specs.Sections.Stepped.{sections_rising}
use Rattle.changes.specs.Changes.{scan_changes}
use Rattle.encoder.specs.Rule.Keeping.{records, unset, kept_of, bytes_of}
use Rattle.encoder.specs.Rule.Keeping.Laws.{kept_part}
use Rattle.encoder.specs.Rule.Keeping as keeping
use Rattle.answers.specs.declared.Answer.{Answer}
use Rattle.answers.specs.Outcome.{Outcome, answer, event_bytes, value_bytes, padded, Left, Lent, LeftKept, leaves, leaves_kept}
use Rattle.entries.specs.Entries.{reads, read_sections, read_changes, apply_time_rule}
use Rattle.answers.specs.Outcome.Laws.{Allowed, padded_length, padded_front, padded_past, padded_nothing, answer_events, answer_values, refusal_rest, refusal_events, refusal_values, acceptance_place, allowed_number, allowed_read, allowed_events, allowed_values}
use Rattle.entries.specs.Entries.Scanned.{Scanned, sections_scanned, changes_scanned}
use Rattle.entries.specs.Entries.Reads as reading
use Rattle.entries.specs.Entries.Reads.{checks_of, rooms_of, events_from}
use Rattle.entries.specs.Entries.Keeps as ruling
use Rattle.entries.specs.Entries.Keeps.{limits_of, rule_outcome}

-- ---- demand 1

-- of an answer, over an input of so many bytes, with refusals up to the highest number
pub record Answers (most input : ℕ) (a : Answer) : Type 0 where
  -- "A refusal gives a number and a place with all other fields zero, ..
  pub refusal : a.number ≢ 0 → (a.read ≡ 0) × (a.events ≡ 0) × (a.values ≡ 0) × (a.steps ≡ 0)
  pub number : a.number ≤ most
  pub acceptance : a.number ≡ 0 → a.place ≡ 0
  -- no more is read than there is
  pub read : a.read ≤ input

-- of an output buffer of so many bytes
pub record Output (a : Answer) (reported size : ℕ) (buffer : List ℕ) : Type 0 where
  -- .. zeroes every output and working buffer"
  pub zeroed : a.number ≢ 0 → buffer ≡ replicate size 0
  -- "No signal table, input or buffer length .. takes it outside its buffers."
  pub long : length buffer ≡ size
  pub within : reported ≤ size
  -- "Output past the reported bytes is zero."
  pub past : drop reported buffer ≡ replicate (size - reported) 0

pub record Demand1 (t : Lists) (input : ℕ) (l : Lent) (x : Left) : Type 0 where
  pub answers : Answers 20 input x.answer
  pub events : Output x.answer x.answer.events l.events x.events
  pub values : Output x.answer x.answer.values l.values x.values
  -- "Working buffers are zero at every return."
  pub room : x.room ≡ replicate l.room 0
  pub list : x.list ≡ replicate l.list 0
  -- "Each public entry does its own checking."
  pub checks : (n p : ℕ) → checks_of t input l ≡ Refused n p → (x.answer.number ≡ n) × (x.answer.place ≡ p)

pub record RuleDemand1 (s : List ℕ) (values room : ℕ) (x : LeftKept) : Type 0 where
  pub answers : Answers 20 (length s) x.answer
  pub kept : Output x.answer x.answer.events room x.kept
  -- "for the time rule, value bytes are 0"
  pub no_values : x.answer.values ≡ 0
  pub checks : limits_of s values room ≡ false → (x.answer.number ≡ 1) × (x.answer.place ≡ 0)

-- ---- demand 2

-- `sc` is what the input says
pub record Demand2 (t : Lists) (input : ℕ) (l : Lent) (sc : Scan) (x : Left) : Type 0 where
  -- "On every section input that document 01 accepts, the time and value events equal, in order and content, ..": their records, each value's start where the last one ended, ..
  pub events : x.answer.number ≡ 0 → take x.answer.events x.events ≡ rendered 0 (events_from t sc)
  -- .. and their values: "Value bytes lie end to end in event order."
  pub values : x.answer.number ≡ 0 → take x.answer.values x.values ≡ values_of (events_from t sc)
  -- "steps (time events made)": one for each step of the input
  pub steps : x.answer.number ≡ 0 → x.answer.steps ≡ steps_of (events_from t sc)
  pub times : x.answer.number ≡ 0 → x.answer.steps ≡ times_of (acts sc)
  -- "bytes read": up to where the input said that it ends
  pub read : x.answer.number ≡ 0 → Ends x.answer.read sc
  -- whatever passes the checks, is read to its end and fits is accepted
  pub accepts : checks_of t input l ≡ Passed → (i : ℕ) → Ends i sc → (o : Out) → append_all (rooms_of l) (events_from t sc) (some empty) ≡ some o → x.answer.number ≡ 0
  -- .. and a refusal has its reason: a check, the scan, or an event that does not fit
  pub refuses : x.answer.number ≢ 0 → reading.Why t input l sc x.answer.number x.answer.place
  -- "16: next event doesn't fit event or value room: next unread byte"
  pub full : x.answer.number ≡ 16 → Overflows t (rooms_of l) sc (begin (gathers t)) empty x.answer.place

-- "the time rule keeps what its Encoder would keep"; when it is accepted and where it is refused: `call_pages` RulePage
pub record RuleDemand2 (s : List ℕ) (values room : ℕ) (x : LeftKept) : Type 0 where
  -- of the records of its input, all of it, ..
  pub whole : x.answer.number ≡ 0 → (bytes_of (records s) ≡ s) × (x.answer.read ≡ length s)
  -- .. those that the clock keeps, "copied unaltered", in order, ..
  pub kept : x.answer.number ≡ 0 → take x.answer.events x.kept ≡ bytes_of (kept_of unset (records s))
  pub sublist : Sublistᴰ (kept_of unset (records s)) (records s)
  -- .. and "steps are times kept"
  pub steps : x.answer.number ≡ 0 → x.answer.steps ≡ keeping.times_of (kept_of unset (records s))

-- ---- their proofs

module _ (most input events values : ℕ) (o : Outcome) (a : Allowed most input events values o) where
  pub answers_of : Answers most input (answer o)
  answers_of = record {
    refusal = refusal_rest o;
    number = allowed_number most input events values o a;
    acceptance = acceptance_place most input events values o a;
    read = allowed_read most input events values o a;
  }

  output_of : (bytes : List ℕ) (reported size : ℕ) → reported ≡ length bytes → length bytes ≤ size → ((answer o).number ≢ 0 → bytes ≡ []) → Output (answer o) reported size (padded size bytes)
  output_of bytes reported size e h none = record {
    zeroed = λ n. padded_nothing size bytes (none n);
    long = padded_length size bytes h;
    within = omega arith;
    past = padded_past size bytes reported e;
  }

  pub events_of : Output (answer o) (answer o).events events (padded events (event_bytes o))
  events_of = output_of (event_bytes o) (answer o).events events (answer_events o) (allowed_events most input events values o a) (refusal_events o)

  values_of_lem : Output (answer o) (answer o).values values (padded values (value_bytes o))
  values_of_lem = output_of (value_bytes o) (answer o).values values (answer_values o) (allowed_values most input events values o a) (refusal_values o)

-- a reading, whatever scans its input
module _ (t : Lists) (input : ℕ) (l : Lent) (sc : Scan) (w : Scanned input sc) where
  abbrev result : Outcome
  result = reads t input l sc

  allowed : Allowed 20 input l.events l.values result
  allowed = reading.read_allowed t input l sc w

  accepted : (answer result).number ≡ 0 → reading.Accepted t input l sc (answer result).read (event_bytes result) (value_bytes result) (answer result).steps
  accepted = reading.reading_accepted t input l sc w

  demand1 : Demand1 t input l (leaves l result)
  unfolding leaves answer
  demand1 = record {
    answers = answers_of 20 input l.events l.values result allowed;
    events = events_of 20 input l.events l.values result allowed;
    values = values_of_lem 20 input l.events l.values result allowed;
    room = refl;
    list = refl;
    checks = λ n p c. let e = reading.read_checks t input l sc n p c in (ap (λ o. (answer o).number) e, ap (λ o. (answer o).place) e);
  }

  demand2 : Demand2 t input l sc (leaves l result)
  unfolding leaves answer
  demand2 = record {
    events = λ h. padded_front l.events (event_bytes result) (answer result).events (answer_events result) ∙ (accepted h).events;
    values = λ h. padded_front l.values (value_bytes result) (answer result).values (answer_values result) ∙ (accepted h).values;
    steps = λ h. (accepted h).steps;
    times = λ h. (accepted h).steps ∙ made_steps t (begin (gathers t)) (acts sc);
    read = λ h. (accepted h).ended;
    accepts = λ c i d o h. ap (λ x. (answer x).number) (reading.read_accepts t input l sc c i d o h);
    refuses = reading.reading_refused t input l sc;
    full = reading.reading_full t input l sc w;
  }

  good : (answer result).number ≡ 0 → Good (gathers t)
  good h = gathers_good t input l.events l.values l.room l.list (accepted h).passed

  demand3_of : (answer result).number ≡ 0 → Demand3 acts_early (gathers t) (acts sc)
  demand3_of h = demand3 (gathers t) (good h) (acts sc) (w.stepped (answer result).read (accepted h).ended)

-- ---- section reading

module _ (t : Lists) (how : How) (s : List ℕ) (l : Lent) where
  pub sections_1 : Demand1 t (length s) l (read_sections t how s l)
  unfolding read_sections
  sections_1 = demand1 t (length s) l (scan_sections t how s) (sections_scanned t how s)

  pub sections_2 : Demand2 t (length s) l (scan_sections t how s) (read_sections t how s l)
  unfolding read_sections
  sections_2 = demand2 t (length s) l (scan_sections t how s) (sections_scanned t how s)

  -- "3. In an accepted reading, before the time rule, every write of a vector bit belongs to exactly one event: .."
  pub sections_3 : (read_sections t how s l).answer.number ≡ 0 → Demand3 acts_early (gathers t) (acts (scan_sections t how s))
  unfolding read_sections leaves
  sections_3 = demand3_of t (length s) l (scan_sections t how s) (sections_scanned t how s)

  -- and sections make no event by rule (a), and at most one of a vector in a step, since ids rise in each
  pub sections_single : (read_sections t how s l).answer.number ≡ 0 → (v : ℕ) → Single false (history_of acts_early (gathers t) (acts (scan_sections t how s)) v)
  unfolding read_sections leaves
  sections_single h = rising_single acts_early (gathers t) (good t (length s) l (scan_sections t how s) (sections_scanned t how s) h) (acts (scan_sections t how s)) (sections_rising t how s)

-- ---- change reading

module _ (t : Lists) (s : List ℕ) (l : Lent) where
  pub changes_1 : Demand1 t (length s) l (read_changes t s l)
  unfolding read_changes
  changes_1 = demand1 t (length s) l (scan_changes t s) (changes_scanned t s)

  pub changes_2 : Demand2 t (length s) l (scan_changes t s) (read_changes t s l)
  unfolding read_changes
  changes_2 = demand2 t (length s) l (scan_changes t s) (changes_scanned t s)

  pub changes_3 : (read_changes t s l).answer.number ≡ 0 → Demand3 acts_early (gathers t) (acts (scan_changes t s))
  unfolding read_changes leaves
  changes_3 = demand3_of t (length s) l (scan_changes t s) (changes_scanned t s)

-- ---- the time rule

module _ (s : List ℕ) (values room : ℕ) where
  abbrev rule : Outcome
  rule = rule_outcome s values room

  kept : (answer rule).number ≡ 0 → ruling.Accepted s values room (answer rule).read (event_bytes rule) (value_bytes rule) (answer rule).steps
  kept = ruling.ruling_accepted s values room

  pub rule_1 : RuleDemand1 s values room (apply_time_rule s values room)
  unfolding apply_time_rule leaves_kept answer
  rule_1 = record {
    answers = answers_of 20 (length s) room 0 rule (ruling.rule_allowed s values room);
    kept = events_of 20 (length s) room 0 rule (ruling.rule_allowed s values room);
    no_values = omega (arith, answer_values rule, allowed_values 20 (length s) room 0 rule (ruling.rule_allowed s values room));
    checks = λ c. (rw c, rw c);
  }

  pub rule_2 : RuleDemand2 s values room (apply_time_rule s values room)
  unfolding apply_time_rule leaves_kept
  rule_2 = record {
    whole = λ h. ((kept h).by_rule.whole, (kept h).by_rule.read);
    kept = λ h. padded_front room (event_bytes rule) (answer rule).events (answer_events rule) ∙ ((kept h).events ∙ (kept h).by_rule.events);
    sublist = kept_part unset (records s);
    steps = λ h. (kept h).steps ∙ (kept h).by_rule.steps;
  }

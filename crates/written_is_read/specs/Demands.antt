-- W2 of document 02, sentence by sentence, of the two entries, and its proof: each sentence a citation. Demand 1 of document 01 holds of them as of the others.
-- That the code gives just `write_sections` and `read_back` is the promise of each public call.
-- Assumes nothing.
use Rattle.std.specs.Prelude.{◌≡◌, ℕ, ◌+◌, ◌^◌, ◌≤◌, ◌<◌, Bool, List, [], ◌++◌, length, take}
use Rattle.std.proofs.Math.Path.{refl, ap}
use Rattle.std.proofs.Common.{sym, ◌∙◌, inl, inr, arith}
use Rattle.numbers.specs.Fixed.Laws.{Bytes}
use Rattle.leb128.specs.Leb128.{read_unsigned, read_signed}
use Rattle.leb128.specs.Leb.{Leb, Value}
use Rattle.number_writer.specs.Ended.{Ended, wrote}
use Rattle.number_writer.specs.Ended as ended
use Rattle.leb128.specs.Shortest.{unsigned_bytes, signed_bytes}
use Rattle.leb128.specs.Shortest.Laws.{unsigned_back, signed_back, unsigned_least, signed_least}
use Rattle.tables.specs.Lists.{Lists}
use Rattle.tables.specs.Check.{Check, Passed, Refused}
use Rattle.rules.specs.Scan.{Scan, Ends}
use Rattle.section_scan.specs.Sections.{scan_sections}
use Rattle.changes.specs.Changes.{scan_changes}
use Rattle.checks.specs.Checked.{checks_without_room, without_number, without_limits, without_alike}
use Rattle.values.specs.Value.{ordinary}
use Rattle.sections_writer.specs.Writer as writer
use Rattle.read_back.specs.ReadBack as back
use Rattle.written_scans.specs.Reread.Refused.{Comes, Own, writes_as, Full, gives_as}
use Rattle.written_scans.specs.Reread.Stream.{read_back_lem}
use Rattle.answers.specs.Outcome.{Outcome, accepted, refused, answer, event_bytes, Lent, LeftKept, leaves_kept}
use Rattle.entries.specs.Entries.{checked, read_sections, read_changes}
use Rattle.answers.specs.Outcome.Laws.{Allowed, padded_front, answer_events, answer_values, allowed_values, acceptance_is}
use Rattle.entries.specs.Entries.Scanned.{Scanned, sections_scanned, changes_scanned}
use Rattle.entries.specs.Demands.{Answers, Output, answers_of, events_of}
use Rattle.answers.specs.Filled.{filled}
use Rattle.entries.specs.Written.{write_sections, read_back}
use Rattle.written_is_read.specs.Entry.{Alike, same_left}

-- the bytes that an answer reports
abbrev pub reported : LeftKept → List ℕ
reported x = take x.answer.events x.kept

-- ---- demand 1, over an input of so many bytes

pub record Demand1 (t : Lists) (input room : ℕ) (x : LeftKept) : Type 0 where
  pub answers : Answers 23 input x.answer
  pub output : Output x.answer x.answer.events room x.kept
  -- "A request's other output counts as event bytes, with 0 value bytes"
  pub no_values : x.answer.values ≡ 0
  -- "Each public entry does its own checking."
  pub checks : (n p : ℕ) → checks_without_room t input room ≡ Refused n p → (x.answer.number ≡ n) × (x.answer.place ≡ p)

-- ---- writing

-- "LEB128 numbers in their shortest form": the number is read back, with any bytes before and after it, and no encoding of it is shorter
pub record Shortest (bytes : ℕ → List ℕ) (read : List ℕ → ℕ → Leb) : Type 0 where
  pub back : (before after : List ℕ) (n : ℕ) → n < 2 ^ 64 → read (before ++ (bytes n ++ after)) (length before) ≡ Value n (length before + length (bytes n))
  pub least : (s : List ℕ) (at n next : ℕ) → read s at ≡ Value n next → at + length (bytes n) ≤ next

-- what reading back gives, and writing that again
pub record Again (t : Lists) (flag : Bool) (s : List ℕ) (room : ℕ) (x y : LeftKept) : Type 0 where
  pub accepted : y.answer.number ≡ 0
  pub stream : reported y ≡ s
  pub steps : y.answer.steps ≡ x.answer.steps
  pub written : write_sections t flag (reported y) room ≡ x

-- when it is accepted and where it is refused: `call_pages` WritePage
pub record WriteDemand (t : Lists) (flag : Bool) (s : List ℕ) (room : ℕ) (x : LeftKept) : Type 0 where
  -- "An accepted change stream and a flag become one cycle section ..": the definition's bytes, with "steps .. time records read"
  pub bytes : x.answer.number ≡ 0 → writer.write_sections t flag s room ≡ wrote x.answer.read (reported x) x.answer.steps
  -- a stream that change reading scans to its end
  pub read : x.answer.number ≡ 0 → Ends x.answer.read (scan_changes t s)
  -- "Where the written bytes are within the section limit, reading them gives the same events as change reading", whatever is lent; `s` are bytes, as every input is
  pub same : Bytes s → x.answer.number ≡ 0 → x.answer.events ≤ 16777215 → (l : Lent) → Alike (read_sections t (ordinary flag) (reported x) l) (read_changes t s l)
  -- ".. and reading what we wrote back into change records and writing again gives the same bytes": with room for the stream, it comes back itself
  pub again : Bytes s → x.answer.number ≡ 0 → x.answer.events ≤ 16777215 → (back : ℕ) → length s ≤ back → back ≤ 1073741823 → Again t flag s room x (read_back t flag (reported x) back)

-- ---- reading back

-- when it is accepted and where it is refused: `call_pages` BackPage
pub record BackDemand (t : Lists) (flag : Bool) (s : List ℕ) (room : ℕ) (x : LeftKept) : Type 0 where
  -- the records of what the sections say
  pub records : x.answer.number ≡ 0 → back.read_back t flag s room ≡ wrote x.answer.read (reported x) x.answer.steps
  pub read : x.answer.number ≡ 0 → Ends x.answer.read (scan_sections t (ordinary flag) s)

-- ---- their proofs

own_number : (n : ℕ) → Own n → (1 ≤ n) × (n ≤ 23)
own_number n (inl e) = (omega arith, omega arith)
own_number n (inr (inl e)) = (omega arith, omega arith)
own_number n (inr (inr e)) = (omega arith, omega arith)

full_number : (n : ℕ) → Full n → (1 ≤ n) × (n ≤ 23)
full_number n e = (omega arith, omega arith)

checked_filled : (k : Check) (e : Ended) (i : ℕ) (es vs : List ℕ) (n : ℕ) → checked k (filled e) ≡ accepted i es vs n → (k ≡ Passed) × (e ≡ wrote i es n)
unfolding checked filled
checked_filled Passed (wrote j bs m) i es vs n q = let a : j ≡ i = cc in let b : bs ≡ es = cc in let d : m ≡ n = cc in (refl, rw (a, b, d))
checked_filled Passed (ended.refused m p) i es vs n q = let z : ◌≡◌ {A = ℕ} 0 1 = cc in absurd (omega arith)
checked_filled (Refused m p) e i es vs n q = let z : ◌≡◌ {A = ℕ} 0 1 = cc in absurd (omega arith)

-- a call that ends as `e`, beside the scan of its input
module _ (own : ℕ → Type 0) (number : (n : ℕ) → own n → (1 ≤ n) × (n ≤ 23)) (t : Lists) (input room : ℕ) (sc : Scan) (w : Scanned input sc) (e : Ended) (c : Comes own room e sc) where
  abbrev check : Check
  check = checks_without_room t input room

  abbrev result : Outcome
  result = checked check (filled e)

  filled_allowed : (e : Ended) → Comes own room e sc → Allowed 23 input room 0 (filled e)
  unfolding Allowed filled
  filled_allowed (wrote i bs n) c = (w.end i c.0, c.1, omega arith)
  filled_allowed (ended.refused n p) (inl f) = let h = w.number n p f in (omega (arith, h.0), omega (arith, h.1))
  filled_allowed (ended.refused n p) (inr o) = number n o

  checked_allowed : (k : Check) → check ≡ k → Allowed 23 input room 0 (checked k (filled e))
  unfolding checked Allowed
  checked_allowed Passed q = filled_allowed e c
  checked_allowed (Refused n p) q = let h = without_number t input room n p q in (h.0, omega (arith, h.1))

  allowed : Allowed 23 input room 0 result
  allowed = checked_allowed check refl

  check_refused : (n p : ℕ) → check ≡ Refused n p → result ≡ refused n p
  unfolding checked
  check_refused n p q = rw q

  demand1 : Demand1 t input room (leaves_kept room result)
  unfolding leaves_kept answer
  demand1 = record {
    answers = answers_of 23 input room 0 result allowed;
    output = events_of 23 input room 0 result allowed;
    no_values = omega (arith, answer_values result, allowed_values 23 input room 0 result allowed);
    checks = λ n p q. (ap (λ o. (answer o).number) (check_refused n p q), ap (λ o. (answer o).place) (check_refused n p q));
  }

  reported_is : reported (leaves_kept room result) ≡ event_bytes result
  unfolding leaves_kept
  reported_is = padded_front room (event_bytes result) (answer result).events (answer_events result)

  reported_long : (answer result).events ≡ length (reported (leaves_kept room result))
  reported_long = answer_events result ∙ ap length (sym reported_is)

  accepted_as : (answer result).number ≡ 0 → (check ≡ Passed) × (e ≡ wrote (answer result).read (reported (leaves_kept room result)) (answer result).steps)
  accepted_as h =
      let (k, q) = checked_filled check e _ _ _ _ (acceptance_is 23 input room 0 result allowed h) in
      (k, q ∙ ap (λ bs. wrote (answer result).read bs (answer result).steps) (sym reported_is))

  ended_there : (e' : Ended) → e ≡ e' → Comes own room e' sc
  ended_there e' q = rw (← q) c

  read_there : (answer result).number ≡ 0 → Ends (answer result).read sc
  read_there h = (ended_there _ (accepted_as h).1).0

-- ---- writing

pub unsigned_shortest : Shortest unsigned_bytes read_unsigned
unsigned_shortest = record { back = unsigned_back; least = λ s at n next. unsigned_least s at }

pub signed_shortest : Shortest signed_bytes read_signed
signed_shortest = record { back = signed_back; least = λ s at n next. signed_least s at }

module _ (t : Lists) (flag : Bool) (s : List ℕ) (room : ℕ) where
  abbrev writing : Ended
  writing = writer.write_sections t flag s room

  abbrev outcome : Outcome
  outcome = checked (checks_without_room t (length s) room) (filled writing)

  pub write_1 : Demand1 t (length s) room (write_sections t flag s room)
  unfolding write_sections
  write_1 = demand1 Own own_number t (length s) room (scan_changes t s) (changes_scanned t s) writing (writes_as t flag s room)

  -- what was written, read back with room for the stream
  module _ (b : Bytes s) (read : ℕ) (bs : List ℕ) (n : ℕ) (k : checks_without_room t (length s) room ≡ Passed) (e : writer.write_sections t flag s room ≡ wrote read bs n) (h : length bs ≤ 16777215) (size : ℕ) (g : length s ≤ size) (l : size ≤ 1073741823) where
    passes : checks_without_room t (length bs) size ≡ Passed
    passes = let m = without_limits t (length s) room k in without_alike t (length bs) size (length s) room h l m.0 m.1 ∙ k

    comes_back : read_back t flag bs size ≡ leaves_kept size (accepted (read_back_lem t flag s room read bs n b e size g).0 s [] n)
    unfolding read_back checked filled
    comes_back = rw (passes, (read_back_lem t flag s room read bs n b e size g).1)

    restored : (y : LeftKept) (r : ℕ) → y ≡ leaves_kept size (accepted r s [] n) → (y.answer.number ≡ 0) × (reported y ≡ s) × (y.answer.steps ≡ n)
    unfolding leaves_kept answer event_bytes
    restored y r q = rw q (refl, padded_front size s (length s) refl, refl)

  got : (answer outcome).number ≡ 0 → (checks_without_room t (length s) room ≡ Passed) × (writing ≡ wrote (answer outcome).read (reported (leaves_kept room outcome)) (answer outcome).steps)
  got = accepted_as Own own_number t (length s) room (scan_changes t s) (changes_scanned t s) writing (writes_as t flag s room)

  long : (answer outcome).events ≤ 16777215 → length (reported (leaves_kept room outcome)) ≤ 16777215
  long m = omega (arith, reported_long Own own_number t (length s) room (scan_changes t s) (changes_scanned t s) writing (writes_as t flag s room))

  pub write_2 : WriteDemand t flag s room (write_sections t flag s room)
  unfolding write_sections leaves_kept
  write_2 = record {
    bytes = λ h. (got h).1;
    read = read_there Own own_number t (length s) room (scan_changes t s) (changes_scanned t s) writing (writes_as t flag s room);
    same = λ b h m. same_left t flag s room _ _ _ b (got h).1 (long m) (without_limits t (length s) room (got h).0).0;
    again = λ b h m size g l.
        let y = comes_back b _ _ _ (got h).0 (got h).1 (long m) size g l in
        let (p, q, r) = restored b _ _ _ (got h).0 (got h).1 (long m) size g l _ _ y in
        record { accepted = p; stream = q; steps = r; written = ap (λ z. write_sections t flag z room) q };
  }

-- ---- reading back

module _ (t : Lists) (flag : Bool) (s : List ℕ) (room : ℕ) where
  pub back_1 : Demand1 t (length s) room (read_back t flag s room)
  unfolding read_back
  back_1 = demand1 Full full_number t (length s) room (scan_sections t (ordinary flag) s) (sections_scanned t (ordinary flag) s) (back.read_back t flag s room) (gives_as t room flag s)

  pub back_2 : BackDemand t flag s room (read_back t flag s room)
  unfolding read_back leaves_kept
  back_2 = record {
    records = λ h. (accepted_as Full full_number t (length s) room (scan_sections t (ordinary flag) s) (sections_scanned t (ordinary flag) s) (back.read_back t flag s room) (gives_as t room flag s) h).1;
    read = read_there Full full_number t (length s) room (scan_sections t (ordinary flag) s) (sections_scanned t (ordinary flag) s) (back.read_back t flag s room) (gives_as t room flag s);
  }

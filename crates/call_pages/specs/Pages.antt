-- The pages of the four calls with one output, and that each is met by one answer alone.
-- Assumes nothing.
use Rattle.std.specs.Prelude.{ℕ, ◌≡◌, Bool, List, length}
use Rattle.tables.specs.Lists.{Lists}
use Rattle.tables.specs.Checks.{unless, and_then}
use Rattle.tables.specs.Check.{Check}
use Rattle.rules.specs.Scan as scan
use Rattle.checks.specs.Checked.{checks_without_room}
use Rattle.values.specs.Value.{ordinary}
use Rattle.section_scan.specs.Sections.{scan_sections}
use Rattle.answers.specs.Outcome.{LeftKept}
use Rattle.entries.specs.Demands.{Answers, Output}
use Rattle.entries.specs.Entries.Keeps as keeping
use Rattle.bench.specs.Bench as benching
use Rattle.courses.specs.Course.{Ends, Faults}
use Rattle.courses.specs.Ruled.{ruled, read}
use Rattle.courses.specs.Written.{written, orderly}
use Rattle.courses.specs.GivenBack.{given_back}
use Rattle.courses.specs.Benched.{benched}
use Rattle.call_pages.specs.Exact.{Exact}
use Rattle.call_pages.specs.Crowded.{crowded}

-- demand 1 of document 01, as far as a call with one output needs it: the answer's fields, and the whole of its buffer
pub record Shaped (most input room : ℕ) (x : LeftKept) : Type 0 where
  pub answers : Answers most input x.answer
  pub output : Output x.answer x.answer.events room x.kept
  -- "with 0 value bytes"
  pub no_values : x.answer.values ≡ 0

-- ---- the time rule

-- "1: buffer over its limit"
abbrev pub rule_checks : List ℕ → (values room : ℕ) → Check
rule_checks s values room = unless (keeping.limits_of s values room) 1

-- the first fault is the first record that is refused, by the records alone
abbrev pub RulePage : List ℕ → (values room : ℕ) → LeftKept → Type 0
RulePage s values room =
    Exact (rule_checks s values room) (λ i. Ends i 0 (read s values))
    (λ n p. Faults n p (read s values)) room (ruled s values)

-- ---- the bench

-- "34 two references equal (place 0, after 1)"
abbrev pub bench_checks : (events values : List ℕ) → (session strobe close room : ℕ) → Check
bench_checks events values session strobe close room =
    and_then (unless (benching.limits_of events values room) 1) (unless (benching.apart session strobe close) 34)

-- the first fault is that of the step ends, or a new session that meets 32 live ones
abbrev pub BenchPage : (events values : List ℕ) → (session strobe close room : ℕ) → LeftKept → Type 0
BenchPage events values session strobe close room =
    let names = benching.named session strobe close in
    Exact (bench_checks events values session strobe close room) (λ i. Ends i 0 (crowded names events values))
    (λ n p. Faults n p (crowded names events values)) room (benched names events values)

-- ---- sections written and read back

-- the first fault is that of change reading's scan, or the first act that is not in order
abbrev pub WritePage : Lists → Bool → List ℕ → (room : ℕ) → LeftKept → Type 0
WritePage t flag s room =
    Exact (checks_without_room t (length s) room) (λ i. scan.Ends i (orderly t s))
    (λ n p. scan.Faults n p (orderly t s)) room (written t flag s)

abbrev pub BackPage : Lists → Bool → List ℕ → (room : ℕ) → LeftKept → Type 0
BackPage t flag s room =
    Exact (checks_without_room t (length s) room) (λ i. scan.Ends i (scan_sections t (ordinary flag) s))
    (λ n p. scan.Faults n p (scan_sections t (ordinary flag) s)) room
    (given_back t flag s)

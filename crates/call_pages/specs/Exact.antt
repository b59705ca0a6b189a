-- What the page of a call with one output says of its answer, from the input alone: nothing is left free.
-- Assumes nothing.
use Rattle.std.specs.Prelude.{ℕ, ◌≤◌, ◌≡◌, ◌≢◌, ◌⊎◌, List, length, take}
use Rattle.tables.specs.Check.{Check, Passed, Refused}
use Rattle.answers.specs.Outcome.{LeftKept}
use Rattle.courses.specs.Course.{Course, bytes_of, Ends, Overflows}
pub mod Proofs

-- the bytes that an answer reports
abbrev pub reported : LeftKept → List ℕ
reported x = take x.answer.events x.kept

-- `checks` are the call's own, `course` is what it has to write; `ends` and `faults` say where the input is read to
-- its end
-- and what its first fault is
module _ (checks : Check) (ends : ℕ → Type 0) (faults : ℕ → ℕ → Type 0) (room : ℕ) (course : Course) where
  -- a refusal's number and place: those of the first check; of the first fault, where all before it fits; or 16, at
  -- the next
  -- unread byte behind what does not fit
  abbrev pub Why : (n p : ℕ) → Type 0
  Why n p =
      (checks ≡ Refused n p)
      ⊎ ((checks ≡ Passed) × ((faults n p × (length (bytes_of course) ≤ room)) ⊎ ((n ≡ 16) × Overflows room 0 course p)))

  pub record Exact (x : LeftKept) : Type 0 where
    -- whatever passes the checks, is read to its end and fits is accepted
    pub accepts : checks ≡ Passed → (i : ℕ) → ends i → length (bytes_of course) ≤ room → x.answer.number ≡ 0
    -- .. and nothing else is
    pub passed : x.answer.number ≡ 0 → checks ≡ Passed
    pub read : x.answer.number ≡ 0 → ends x.answer.read
    pub steps : x.answer.number ≡ 0 → Ends x.answer.read x.answer.steps course
    pub bytes : x.answer.number ≡ 0 → reported x ≡ bytes_of course
    pub refuses : x.answer.number ≢ 0 → Why x.answer.number x.answer.place

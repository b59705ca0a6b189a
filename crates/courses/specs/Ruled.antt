-- What the time rule has to write: the records that its clock keeps, up to the input's end or the first record that
-- is refused.
-- Assumes nothing.
use Rattle.std.specs.Prelude.{ℕ, zero, suc, ◌+◌, ◌-◌, Bool, true, false, cond, List, length}
use Rattle.slices.specs.Splice.{part}
use Rattle.event_streams.specs.Next.{Next, Event, End, Bad}
use Rattle.event_streams.specs.Stream.{next_event}
use Rattle.encoder.specs.declared.Clock.{Clock}
use Rattle.encoder.specs.Rule.{keeps, ticks, times}
use Rattle.encoder.specs.Rule.Keeping.{unset}
use Rattle.courses.specs.Course.{Course, adds, done, fault}
pub mod Laws

module _ (s : List ℕ) (values : ℕ) where
  -- a kept record is "copied unaltered", and "steps are times kept"
  unfoldable pub on_record : Clock → (steps i : ℕ) → Next → (Clock → ℕ → ℕ → Course) → Course
  on_record c n i (Event r j) more =
      cond (keeps c r) (adds (part s i (j - i)) j (more (ticks c r) (n + times r) j)) (more (ticks c r) n j)
  on_record c n i End more = done i n
  on_record c n i (Bad m p) more = fault m p

  unfoldable pub rules_from : (fuel : ℕ) → Clock → (steps i : ℕ) → Course
  rules_from zero c n i = done i n
  rules_from (suc fuel) c n i = on_record c n i (next_event s values c.begun i) (λ d m j. rules_from fuel d m j)

  unfoldable pub ruled : Course
  ruled = rules_from (length s) unset 0 0

  -- ---- the same by the records alone: no clock, and no kept record

  -- how a stream ends: a course that adds nothing; `begun` says that a record was read, which was then a time
  unfoldable pub on_next : ℕ → Next → (ℕ → Course) → Course
  on_next i (Event r j) more = more j
  on_next i End more = done i 0
  on_next i (Bad m p) more = fault m p

  unfoldable pub read_from : (fuel : ℕ) → (begun : Bool) → (i : ℕ) → Course
  read_from zero begun i = done i 0
  read_from (suc fuel) begun i = on_next i (next_event s values begun i) (λ j. read_from fuel true j)

  unfoldable pub read : Course
  read = read_from (length s) false 0

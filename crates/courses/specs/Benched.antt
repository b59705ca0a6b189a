-- What the bench has to write, from the step ends of its events: a fragment at each rise of the strobe, a closing
-- where a live session is dropped,
-- and what is held at the input's end.
-- Assumes nothing.
use Rattle.std.specs.Prelude.{ℕ, ◌+◌, Bool, true, false, cond, List, ltb}
use Rattle.step_ends.specs.declared.Names.{Names}
use Rattle.step_ends.specs.declared.Watch.{Watch}
use Rattle.step_ends.specs.Steps.{Steps, unseen, step_ends, rose}
use Rattle.step_ends.specs.Steps as steps
use Rattle.sessions.specs.declared.Bench.{Bench}
use Rattle.sessions.specs.Places.{place_of, place_for, counted, dropped, empty}
use Rattle.fragment_records.specs.Output.{fragment, out_bytes, held_of}
use Rattle.fragment_records.specs.Output as output
use Rattle.fragments.specs.Counting.{closes, closed_of}
use Rattle.courses.specs.Course.{Course, adds, done, fault}

-- "21 when a new session meets 32 live ones, after all of 01's": so behind the fragment, which has to fit; "at the
-- record ending the step"
unfoldable pub seats : Bench → Watch → (at : ℕ) → (Bench → Course) → Course
seats b w at more = cond (ltb (place_for b w.session) 32) (more (counted b (place_for b w.session) w.session))
    (fault 21 at)

-- "where the strobe stands at 1 and stood at 0 .., one fragment is counted to the session value then shown"
unfoldable pub counts : Bool → Bench → Watch → (at next : ℕ) → (Bench → Course) → Course
counts true b w at next more = adds (out_bytes (fragment w.time w.session)) next (seats b w at more)
counts false b w at next more = more b

-- "Where close stands at 1 at step end the shown session is dropped after any counting"
unfoldable pub drops : Bool → Bench → Watch → (next : ℕ) → (Bench → Course) → Course
drops true b w next more = adds (out_bytes (closed_of b w)) next (more (dropped b (place_of b w.session)))
drops false b w next more = more b

unfoldable pub benched_from : Bench → (before : Watch) (steps : ℕ) → Steps → Course
benched_from b before k (steps.step w at next rest) =
    counts (rose before w) b w at next (λ c. drops (closes c w) c w next (λ d. benched_from d w (k + 1) rest))
benched_from b before k (steps.done read) = adds (output.bytes_of (held_of b)) read (done read k)
benched_from b before k (steps.refused n p) = fault n p

unfoldable pub benched : Names → (s values : List ℕ) → Course
benched names s values = benched_from empty unseen 0 (step_ends names s values)

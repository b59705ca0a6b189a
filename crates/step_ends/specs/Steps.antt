-- What a session vector, a strobe and a close line show at each step's end, from the events alone.
-- Assumes nothing.
use Rattle.std.specs.Prelude.{ℕ, zero, suc, ◌+◌, Bool, true, false, cond, ◌&&◌, List, length, leb, eqb}
use Rattle.slices.specs.Splice.{part}
use Rattle.numbers.specs.Fixed.{big}
use Rattle.states.specs.declared.States.{States}
use Rattle.states.specs.declared.States.TheVariants.{Two, Nine}
use Rattle.records.specs.declared.Record.{Record}
use Rattle.records.specs.declared.Record.TheVariants.{Time, Value, Real}
use Rattle.event_streams.specs.Next.{Next}
use Rattle.event_streams.specs.Next as next
use Rattle.event_streams.specs.Stream.{next_event}
use Rattle.step_ends.specs.declared.Names.{Names}
use Rattle.step_ends.specs.declared.Line.{Line}
use Rattle.step_ends.specs.declared.Line.TheVariants.{Session, Strobe, Close, Other}
use Rattle.step_ends.specs.declared.Watch.{Watch}
use Rattle.step_ends.specs.Seen.{SeenFound, More, Step, End, Bad}
pub mod Code
pub mod Laws
pub mod Shown
pub mod Examples

-- "the references of a session vector, a two-state strobe and a two-state close line"
unfoldable pub line_of : Names → ℕ → Line
line_of n r = cond (eqb r n.session) Session (cond (eqb r n.strobe) Strobe (cond (eqb r n.close) Close Other))

-- two-state, and of 1 to `most` bytes
unfoldable pub two_of : States → (n most : ℕ) → Bool
two_of Two n most = leb 1 n && leb n most
two_of Nine n most = false

-- "two-state .. 1 to 4 bytes long for the session, 1 byte for the others"
unfoldable pub suits : Line → States → ℕ → Bool
suits Session states n = two_of states n 4
suits Strobe states n = two_of states n 1
suits Close states n = two_of states n 1
suits Other states n = true

-- "1 time (8 bytes), at the start of every step"
abbrev pub opened : Watch → ℕ → Watch
opened w u = record { begun = true; time = u; session = w.session; strobe = w.strobe; close = w.close }

-- an event of one of the three: its value bytes as a number, "bit 0 lies lowest in the last byte"
unfoldable pub shows : (values : List ℕ) → Watch → Line → (start n : ℕ) → Watch
shows values w Session start n = record { begun = w.begun; time = w.time; session = big (part values start n); strobe = w.strobe; close = w.close }
shows values w Strobe start n = record { begun = w.begun; time = w.time; session = w.session; strobe = big (part values start n); close = w.close }
shows values w Close start n = record { begun = w.begun; time = w.time; session = w.session; strobe = w.strobe; close = big (part values start n) }
shows values w Other start n = w

-- a time opens a step, and ends the one that is open
unfoldable pub see_time : Watch → (u j : ℕ) → SeenFound
see_time w u j = cond w.begun (Step (opened w u) j) (More (opened w u) j)

-- "34 .. an event of the three that isn't two-state or isn't 1 to 4 bytes long for the session, 1 byte for the others"
unfoldable pub see_value : (values : List ℕ) → Watch → Line → States → (start n i j : ℕ) → SeenFound
see_value values w line states start n i j = cond (suits line states n) (More (shows values w line start n) j) (Bad 34 i)

-- .. and a real isn't two-state
unfoldable pub see_real : Watch → Line → (i j : ℕ) → SeenFound
see_real w Session i j = Bad 34 i
see_real w Strobe i j = Bad 34 i
see_real w Close i j = Bad 34 i
see_real w Other i j = More w j

-- "a later request's refusal stands at its record", "(after 20)"
module _ (names : Names) where
  unfoldable pub see_event : (values : List ℕ) → Watch → Record → (i j : ℕ) → SeenFound
  see_event values w (Time u) i j = see_time w u j
  see_event values w (Value states reference start n) i j = see_value values w (line_of names reference) states start n i j
  see_event values w (Real reference bits) i j = see_real w (line_of names reference) i j

  unfoldable pub see_next : (values : List ℕ) → Watch → ℕ → Next → SeenFound
  see_next values w i (next.Event r j) = see_event values w r i j
  see_next values w i next.End = End
  see_next values w i (next.Bad n p) = Bad n p

  unfoldable pub see : (s values : List ℕ) → Watch → ℕ → SeenFound
  see s values w i = see_next values w i (next_event s (length values) w.begun i)

-- the step ends of a stream, in order: what is shown then, with the step's time; the first byte of the record that ends it, and the place after that record,
-- both the input's length where the input's end does. And how the stream ends: all was read, or a refusal.
pub data Steps : Type 0 where
  step : (shown : Watch) (at next : ℕ) → Steps → Steps
  done : (read : ℕ) → Steps
  refused : (n p : ℕ) → Steps

-- the input's end ends the last step
unfoldable pub last_step : Bool → Watch → ℕ → Steps
last_step true w i = step w i i (done i)
last_step false w i = done i

unfoldable pub on_seen : Watch → ℕ → SeenFound → (Watch → ℕ → Steps) → Steps
on_seen w i (More v j) more = more v j
on_seen w i (Step v j) more = step w i j (more v j)
on_seen w i End more = last_step w.begun w i
on_seen w i (Bad n p) more = refused n p

-- "A signal without an event yet shows 0"
abbrev pub unseen : Watch
unseen = record { begun = false; time = 0; session = 0; strobe = 0; close = 0 }

module _ (names : Names) (s values : List ℕ) where
  unfoldable pub steps_from : (fuel : ℕ) → Watch → ℕ → Steps
  steps_from zero w i = last_step w.begun w i
  steps_from (suc fuel) w i = on_seen w i (see names s values w i) (λ v j. steps_from fuel v j)

  unfoldable pub step_ends : Steps
  step_ends = steps_from (length s) unseen 0

-- "the strobe stands at 1 and stood at 0 at the previous step's end"
unfoldable pub rose : (before : Watch) → Watch → Bool
rose before w = eqb before.strobe 0 && eqb w.strobe 1

-- "the rises of the strobe between step ends, a number defined from the events alone"
unfoldable pub rises_from : (before : Watch) → Steps → ℕ
rises_from before (step w at next rest) = cond (rose before w) 1 0 + rises_from w rest
rises_from before (done read) = 0
rises_from before (refused n p) = 0

-- ".. (0 before the first)"
unfoldable pub rises : Steps → ℕ
rises ends = rises_from unseen ends

-- how many steps end
unfoldable pub count : Steps → ℕ
count (step w at next rest) = 1 + count rest
count (done read) = 0
count (refused n p) = 0

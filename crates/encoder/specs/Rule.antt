-- The time rule over an event stream.
-- Assumes nothing.
use Rattle.std.specs.Prelude.{ℕ, zero, suc, ◌+◌, ◌-◌, Bool, true, false, not, cond, List, [], ◌++◌, length, ltb, leb, eqb}
use Rattle.slices.specs.Splice.{part}
use Rattle.records.specs.declared.Record.{Record}
use Rattle.records.specs.declared.Record.TheVariants.{Time, Value, Real}
use Rattle.event_streams.specs.Next.{Next, Event, End, Bad}
use Rattle.event_streams.specs.Stream.{next_event}
use Rattle.encoder.specs.declared.Clock.{Clock}
pub mod Promise
pub mod Code
pub mod Keeping

-- "The first time is kept; each later one is compared with the last kept": a larger one is kept. "Value and real events are dropped while skipping."
unfoldable pub keeps : Clock → Record → Bool
keeps c (Time u) = cond c.begun (ltb c.last u) true
keeps c (Value s reference start n) = not c.skipping
keeps c (Real reference bits) = not c.skipping

abbrev pub kept : ℕ → Clock
kept u = record { begun = true; last = u; skipping = false }

-- "an equal one is dropped and changes nothing else, not even skipping; a smaller one is dropped and starts skipping; a larger one is kept and ends it"
unfoldable pub ticks : Clock → Record → Clock
ticks c (Time u) = cond c.begun (cond (ltb c.last u) (kept u) (cond (eqb u c.last) c (record { begun = true; last = c.last; skipping = true }))) (kept u)
ticks c (Value s reference start n) = c
ticks c (Real reference bits) = c

-- how many times a kept record is
unfoldable pub times : Record → ℕ
times (Time u) = 1
times (Value s reference start n) = 0
times (Real reference bits) = 0

-- what has been kept
pub record Kept : Type 0 where
  pub events : List ℕ
  pub steps : ℕ

-- how a stream ends: all was read, or a refusal
pub data Ruled : Type 0 where
  ruled : ℕ → Kept → Ruled
  refused : ℕ → ℕ → Ruled

module _ (s : List ℕ) (values room : ℕ) where
  -- "Kept events are copied unaltered"; "16: next event doesn't fit: next unread byte"
  unfoldable pub one : Clock → Kept → ℕ → Next → (Clock → Kept → ℕ → Ruled) → Ruled
  one c k i (Event r j) more =
      cond (keeps c r)
      (cond (leb (length k.events + (j - i)) room) (more (ticks c r) (record { events = k.events ++ part s i (j - i); steps = k.steps + times r }) j) (refused 16 j))
      (more (ticks c r) k j)
  one c k i End more = ruled i k
  one c k i (Bad n p) more = refused n p

  unfoldable pub rule : (fuel : ℕ) → Clock → Kept → ℕ → Ruled
  rule zero c k i = ruled i k
  rule (suc fuel) c k i = one c k i (next_event s values c.begun i) (λ c' k' j. rule fuel c' k' j)

  unfoldable pub time_rule : Ruled
  time_rule = rule (length s) (record { begun = false; last = 0; skipping = false }) (record { events = []; steps = 0 }) 0

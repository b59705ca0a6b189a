-- An event stream and its value buffer, read record by record.
-- Assumes nothing.
use Rattle.std.specs.Prelude.{ℕ, ◌+◌, Bool, true, false, cond, ◌||◌, List, length, get_or, leb, eqb}
use Rattle.slices.specs.Splice.{part}
use Rattle.numbers.specs.Fixed.{big}
use Rattle.states.specs.declared.States.TheVariants.{Two, Nine}
use Rattle.records.specs.declared.Record.{Record}
use Rattle.records.specs.declared.Record.TheVariants.{Time, Value, Real}
use Rattle.event_streams.specs.Next.{Next, Event, End, Bad}
pub mod Code

-- "a body whose length the kind fixes": the length of an event record, its kind byte included; 0 for "unknown house kind"
unfoldable pub event_length : ℕ → ℕ
event_length k = cond (eqb k 1) 9 (cond (eqb k 2 || eqb k 3 || eqb k 4) 13 0)

-- the record of a known kind
unfoldable pub record_at : List ℕ → ℕ → Record
record_at s i =
    cond (eqb (get_or s i 0) 1) (Time (big (part s (i + 1) 8)))
    (cond (eqb (get_or s i 0) 4) (Real (big (part s (i + 1) 4)) (big (part s (i + 5) 8)))
    (Value (cond (eqb (get_or s i 0) 2) Two Nine) (big (part s (i + 1) 4)) (big (part s (i + 5) 4)) (big (part s (i + 9) 4))))

unfoldable pub is_time : Record → Bool
is_time (Time u) = true
is_time (Value s reference start n) = false
is_time (Real reference bits) = false

-- "20: event's start plus length is past the value buffer's end: record"
unfoldable pub in_values : ℕ → Record → Bool
in_values values (Time u) = true
in_values values (Value s reference start n) = leb (start + n) values
in_values values (Real reference bits) = true

-- "18: value or real event before any time: record"
unfoldable pub judged : (values : ℕ) (begun : Bool) → Record → (i j : ℕ) → Next
judged values begun r i j = cond (is_time r || begun) (cond (in_values values r) (Event r j) (Bad 20 i)) (Bad 18 i)

-- "In a record: 17, 7, 18, .. 20"
unfoldable pub next_event : List ℕ → (values : ℕ) (begun : Bool) → ℕ → Next
next_event s values begun i =
    cond (leb (length s) i) End
    (cond (eqb (event_length (get_or s i 0)) 0) (Bad 17 i)
    (cond (leb (i + event_length (get_or s i 0)) (length s)) (judged values begun (record_at s i) i (i + event_length (get_or s i 0))) (Bad 7 i)))

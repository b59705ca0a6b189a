-- Events, and the bytes of their records.
-- Assumes nothing.
use Rattle.std.specs.Prelude.{ℕ, List, [], ◌∷◌, ◌++◌, length}
use Rattle.numbers.specs.Fixed.{big_bytes}
use Rattle.states.specs.declared.States.{States}
use Rattle.states.specs.declared.States.TheVariants.{Two, Nine}
use Rattle.records.specs.declared.Record.{Record}
use Rattle.records.specs.declared.Record.TheVariants.{Time, Value, Real}
pub mod Laws
pub mod Code

-- what an event says: a time; a value, with the number of the vector for which it was made (0 for none), its state kind, reference and bytes; a real's bits
pub data Event : Type 0 where
  time : ℕ → Event
  value : (vector : ℕ) → States → (reference : ℕ) → List ℕ → Event
  real : (reference bits : ℕ) → Event

-- "2 two-state value; 3 nine-state value"
abbrev pub kind_of : States → ℕ
kind_of Two = 2
kind_of Nine = 3

-- "1 time (8 bytes); 2 two-state value (reference, start, length in the value buffer); 3 nine-state value (same); 4 real (reference, 8 bytes of bits)"
unfoldable pub record_bytes : Record → List ℕ
record_bytes (Time u) = 1 ∷ big_bytes 8 u
record_bytes (Value s reference start n) = kind_of s ∷ big_bytes 4 reference ++ big_bytes 4 start ++ big_bytes 4 n
record_bytes (Real reference bits) = 4 ∷ big_bytes 4 reference ++ big_bytes 8 bits

-- the record of an event whose value bytes start at `start`
unfoldable pub record_of : ℕ → Event → Record
record_of start (time u) = Time u
record_of start (value v s reference bs) = Value s reference start (length bs)
record_of start (real reference bits) = Real reference bits

unfoldable pub event_value : Event → List ℕ
event_value (time u) = []
event_value (value v s reference bs) = bs
event_value (real reference bits) = []

-- how many times it is
unfoldable pub event_steps : Event → ℕ
event_steps (time u) = 1
event_steps (value v s reference bs) = 0
event_steps (real reference bits) = 0

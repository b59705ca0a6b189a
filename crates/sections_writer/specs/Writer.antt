-- Change records to section bytes: "An accepted change stream and a flag become one cycle section with LEB128 numbers in their shortest form, a closing delta of -1 and a tailer with eight zero bytes; an empty stream becomes the tailer alone."
-- Assumes nothing.
use Rattle.std.specs.Prelude.{ℕ, zero, suc, ◌+◌, ◌-◌, ◌^◌, Bool, true, false, cond, ◌&&◌, List, [], ◌∷◌, ◌++◌, length, get_or, replicate, ltb, leb, eqb}
use Rattle.numbers.specs.Marks.{cyc, ecy, tai}
use Rattle.number_writer.specs.Ended.{Ended, wrote, refused}
use Rattle.leb128.specs.Shortest.{unsigned_bytes, signed_bytes}
use Rattle.number_writer.specs.Little.{little_bytes, fixed_bytes}
use Rattle.tables.specs.Lists.{Lists, nth}
use Rattle.changes.specs.Changes.{next_change}
use Rattle.changes.specs.Change.{ChangeFound, Time, Write, StepEnd, End, Bad}
use Rattle.sections_writer.specs.declared.Pen.{Pen}
pub mod Turn
pub mod Loop
pub mod Kinds
pub mod Examples

-- the time of a record that opens a step: the cycle's mark and its time, or a delta
unfoldable pub time_bytes : Bool → Pen → ℕ → List ℕ
time_bytes flag p u = cond (eqb p.steps 0) (cyc ++ fixed_bytes flag 8 u) (signed_bytes (u - p.time))

-- "Times must not fall, neighbouring times differ by at most 2^63-1"
unfoldable pub time_good : Pen → ℕ → Bool
time_good p u = cond (eqb p.steps 0) true (leb p.time u && leb (u - p.time) (2 ^ 63 - 1))

abbrev pub timed : Pen → ℕ → Pen
timed p u = record { inside = true; steps = p.steps + 1; time = u; id = 0 }

-- a value, as sections have it: the byte of a byte write, which ends its record; "kind 5 a signed LEB128 ..; kind 6 eight bytes, always little-endian"
unfoldable pub value_bytes : (kind v : ℕ) → List ℕ → (j : ℕ) → List ℕ
value_bytes kind v s j = cond (leb kind 4) (get_or s (j - 1) 0 ∷ []) (cond (eqb kind 5) (signed_bytes v) (little_bytes 8 v))

-- "ids rise strictly within a step": the delta to the last id, then the value
unfoldable pub write_bytes : Pen → (kind id v : ℕ) → List ℕ → (j : ℕ) → List ℕ
write_bytes p kind id v s j = unsigned_bytes (id - p.id) ++ value_bytes kind v s j

abbrev pub wrote_to : Pen → ℕ → Pen
wrote_to p id = record { inside = true; steps = p.steps; time = p.time; id = id }

abbrev pub stepped : Pen → Pen
stepped p = record { inside = false; steps = p.steps; time = p.time; id = p.id }

-- "a closing delta of -1" and the cycle's end mark, where there is a cycle
unfoldable pub cycle_end : Pen → List ℕ
cycle_end p = cond (eqb p.steps 0) [] (signed_bytes (2 ^ 64 - 1) ++ ecy)

-- ".. and a tailer with eight zero bytes"
unfoldable pub closing : Pen → List ℕ
closing p = cycle_end p ++ (tai ++ replicate 8 0)

-- what a record gives: bytes, and the writer and the place after it; or the last bytes at the input's end; or a refusal
pub data Given : Type 0 where
  goes : List ℕ → Pen → ℕ → Given
  ends : List ℕ → ℕ → Given
  stops : ℕ → ℕ → Given

-- "23 time falls or jumps too far .. at the record"
unfoldable pub given_time : Bool → Pen → (i u j : ℕ) → Given
given_time flag p i u j = cond (time_good p u) (goes (time_bytes flag p u) (timed p u) j) (stops 23 i)

-- "22 ids not rising .. at the record"
unfoldable pub given_write : List ℕ → Pen → (i kind id v j : ℕ) → Given
given_write s p i kind id v j = cond (ltb p.id id) (goes (write_bytes p kind id v s j) (wrote_to p id) j) (stops 22 i)

unfoldable pub given : Lists → Bool → List ℕ → Pen → (i : ℕ) → ChangeFound → Given
given t flag s p i (Time u j) = given_time flag p i u j
given t flag s p i (Write id v j) = given_write s p i (nth t.kinds id) id v j
given t flag s p i (StepEnd j) = goes (0 ∷ []) (stepped p) j
given t flag s p i (End j) = ends (closing p) j
given t flag s p i (Bad n q) = stops n q

abbrev pub begin : Pen
begin = record { inside = false; steps = 0; time = 0; id = 0 }

module _ (t : Lists) (flag : Bool) (s : List ℕ) (room : ℕ) where
  -- "16 means that the record's bytes, or the closing ones at the input's end, don't fit"
  unfoldable pub one : Pen → List ℕ → Given → (Pen → List ℕ → ℕ → Ended) → Ended
  one p out (goes bs q j) more = cond (leb (length out + length bs) room) (more q (out ++ bs) j) (refused 16 j)
  one p out (ends bs j) more = cond (leb (length out + length bs) room) (wrote j (out ++ bs) p.steps) (refused 16 j)
  one p out (stops n q) more = refused n q

  unfoldable pub writing : (fuel : ℕ) → Pen → List ℕ → ℕ → Ended
  writing zero p out i = one p out (given t flag s p i (next_change t s p.inside i)) (λ q o j. wrote j o q.steps)
  writing (suc fuel) p out i = one p out (given t flag s p i (next_change t s p.inside i)) (λ q o j. writing fuel q o j)

  unfoldable pub write_sections : Ended
  write_sections = writing (length s) begin [] 0

-- Section bytes to acts, in order, and how the input ended.
-- Assumes nothing.
use Rattle.std.specs.Prelude.{ℕ, zero, suc, ◌+◌, ◌^◌, Bool, cond, List, [], length, replicate, ltb, leb, eqb}
use Rattle.slices.specs.Splice.{part}
use Rattle.numbers.specs.Fixed.{fixed, negative}
use Rattle.numbers.specs.Marks.{same, esn, ecy, eod, section_of}
use Rattle.numbers.specs.declared.marks.Section.{Section}
use Rattle.numbers.specs.declared.marks.Section.TheVariants.{Snapshot, Cycle, Directory, Tailer, Unknown}
use Rattle.tables.specs.Lists.{Lists, lists, nth, signals}
use Rattle.values.specs.declared.How.{How}
use Rattle.values.specs.Read.{Read, Bad}
use Rattle.values.specs.Value.{on_read, unsigned, signed, value}
use Rattle.rules.specs.Gather.{time, write, step_end}
use Rattle.rules.specs.Scan.{Scan, say, done, fault, and_then}
use Rattle.section_scan.specs.FoundId.{FoundId}
use Rattle.section_scan.specs.FoundTime.{FoundTime}
use Rattle.section_scan.specs.FoundId as ids
use Rattle.section_scan.specs.FoundTime as times
pub mod Deltas
pub mod Stepped
pub mod Manners

-- tables of signals of these kinds: of tables, ids are judged by the number of signals alone
abbrev pub with_kinds : List ℕ → Lists
with_kinds kinds = lists kinds [] [] [] [] [] []

abbrev pub then : Read → (ℕ → ℕ → Scan) → Scan
then r k = on_read r fault k

-- "7: input ends inside a mark, head or field: its first byte", or where it must still follow, which is then the input's length
unfoldable pub field : ℕ → List ℕ → ℕ → (ℕ → Scan) → Scan
field n s i k = cond (leb (i + n) (length s)) (k (i + n)) (fault 7 i)

-- "10: wrong end mark: mark"
unfoldable pub end_mark : List ℕ → List ℕ → ℕ → Scan
end_mark mark s i = field 4 s i (λ j. cond (same (part s i 4) mark) (done j) (fault 10 i))

-- "unsigned LEB128 deltas, each added to the last id ..; delta 0 ends it"; "13: id is 0 or past n: delta"
unfoldable pub next_id : Lists → List ℕ → ℕ → ℕ → FoundId
next_id t s id i =
    on_read (unsigned s i) ids.Bad
    (λ d j. cond (eqb d 0) (ids.End j) (cond (leb (id + d) (signals t)) (ids.Id (id + d) j) (ids.Bad 13 i)))

module _ (t : Lists) (how : How) (s : List ℕ) where
  -- "a value for each id 1..n": of `count` ids from `id` on
  unfoldable pub each_value : (count id i : ℕ) → Scan
  each_value zero id i = done i
  each_value (suc count) id i =
      then (value how (nth t.kinds id) s i) (λ v j. say (write id v i) j (each_value count (suc id) j))

  unfoldable pub one_change : FoundId → (ℕ → ℕ → Scan) → Scan
  one_change (ids.Id id j) more = then (value how (nth t.kinds id) s j) (λ v k. say (write id v j) k (more id k))
  one_change (ids.End j) more = done j
  one_change (ids.Bad n p) more = fault n p

  -- "each followed by a value": at most `fuel` of them, more than the input can hold
  unfoldable pub change_list : (fuel id i : ℕ) → Scan
  change_list zero id i = fault 7 i
  change_list (suc fuel) id i = one_change (next_id t s id i) (λ id' k. change_list fuel id' k)

-- "a signed LEB128 delta. Negative ends the cycle ..; zero or more is added to the time"; "15: time passes 2^64-1: time delta"
unfoldable pub next_time : List ℕ → ℕ → ℕ → FoundTime
next_time s u i =
    on_read (signed s i) times.Bad
    (λ d j. cond (negative 64 d) (times.End j) (cond (ltb (u + d) (2 ^ 64)) (times.Time (u + d) j) (times.Bad 15 i)))

module _ (t : Lists) (how : How) (s : List ℕ) where
  abbrev flag : Bool
  flag = how.big_endian

  -- "Snapshot: a 12-byte head (four zero bytes, then a signed 64-bit time taken as its 64 bits unsigned), a value for each id 1..n, step end, ESN."; "9: snapshot zeros wrong: head"
  unfoldable pub snapshot : ℕ → Scan
  snapshot i =
      field 12 s i (λ j.
      cond (same (part s i 4) (replicate 4 0))
      (say (time (fixed flag (part s (i + 4) 8))) j (and_then (each_value t how s (signals t) 1 j) (λ k. say step_end k (end_mark esn s k))))
      (fault 9 i))

  unfoldable pub one_step : FoundTime → (ℕ → ℕ → Scan) → Scan
  one_step (times.Time u j) more = say (time u) j (more u j)
  one_step (times.End j) more = end_mark ecy s j
  one_step (times.Bad n p) more = fault n p

  -- "Each step: a change list, step end, a signed LEB128 delta. Negative ends the cycle and ECY follows; .. another step begins."
  unfoldable pub steps : (fuel u i : ℕ) → Scan
  steps zero u i = fault 7 i
  steps (suc fuel) u i = and_then (change_list t how s (length s) 0 i) (λ j. say step_end j (one_step (next_time s u j) (λ u' e. steps fuel u' e)))

  -- "Cycle: an 8-byte time with no zeros before it."
  unfoldable pub cycle : ℕ → Scan
  cycle i = field 8 s i (λ j. say (time (fixed flag (part s i 8))) j (steps (length s) (fixed flag (part s i 8)) j))

  -- "count entries of a 4-byte id and a signed 32-bit position"; "11: negative directory number: that number"
  unfoldable pub entries : (count i : ℕ) → Scan
  entries zero i = done i
  entries (suc count) i = field 4 s i (λ j. field 4 s j (λ k. cond (negative 32 (fixed flag (part s j 4))) (fault 11 j) (entries count k)))

  -- "Directory: an 8-byte head (four unchecked bytes, then a signed 32-bit count), count entries .., EOD."
  unfoldable pub directory : ℕ → Scan
  directory i =
      field 8 s i (λ j.
      cond (negative 32 (fixed flag (part s (i + 4) 4))) (fault 11 (i + 4))
      (and_then (entries (fixed flag (part s (i + 4) 4)) j) (λ k. end_mark eod s k)))

  -- "Tailer: 8 more bytes of any content; the tailer ends the reading from inside the section loop."; "8: unknown section mark: mark"
  unfoldable pub one_section : Section → (mark i : ℕ) → (ℕ → Scan) → Scan
  one_section Snapshot mark i more = and_then (snapshot i) more
  one_section Cycle mark i more = and_then (cycle i) more
  one_section Directory mark i more = and_then (directory i) more
  one_section Tailer mark i more = field 8 s i done
  one_section Unknown mark i more = fault 8 mark

  unfoldable pub sections : (fuel i : ℕ) → Scan
  sections zero i = fault 7 i
  sections (suc fuel) i = field 4 s i (λ j. one_section (section_of (part s i 4)) i j (λ k. sections fuel k))

  unfoldable pub scan_sections : Scan
  scan_sections = sections (length s) 0

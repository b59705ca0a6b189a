-- Change records to acts, in order, and how the input ended.
-- Assumes nothing.
use Rattle.std.specs.Prelude.{ℕ, zero, suc, ◌+◌, Bool, true, false, cond, ◌&&◌, List, length, get_or, leb, eqb}
use Rattle.slices.specs.Splice.{part}
use Rattle.numbers.specs.Fixed.{big}
use Rattle.tables.specs.Lists.{Lists, nth, signals}
use Rattle.values.specs.Value.{on_read, narrow}
use Rattle.rules.specs.Gather.{time, write, step_end}
use Rattle.rules.specs.Scan.{Scan, say, done, fault}
use Rattle.changes.specs.Change.{ChangeFound, Time, Write, StepEnd, End, Bad}
pub mod Whole
pub mod Record
pub mod Found
pub mod Items
pub mod Steps

-- "1 time (8 bytes) ..; 2 byte write (id, 1 byte ..) ..; 3 wide write (id, 8 bytes ..) ..; 4 step end (no body)": the length of a record, its kind byte included; 0 for "unknown house kind"
unfoldable pub record_length : ℕ → ℕ
record_length k = cond (eqb k 1) 9 (cond (eqb k 2) 6 (cond (eqb k 3) 13 (cond (eqb k 4) 1 0)))

module _ (t : Lists) (s : List ℕ) where
  -- "19: write doesn't suit the signal's kind: record": 2 for kinds 0..4, its value "bounded and mapped as in sections"; 3 for 5 and 6, "the integer or the real's bits"
  unfoldable pub written : (k id i : ℕ) → ChangeFound
  written k id i =
      cond (eqb k 2)
      (cond (leb (nth t.kinds id) 4) (on_read (narrow (nth t.kinds id) s (i + 5)) Bad (λ v j. Write id v j)) (Bad 19 i))
      (cond (leb 5 (nth t.kinds id)) (Write id (big (part s (i + 5) 8)) (i + 13)) (Bad 19 i))

  -- "13: id is 0 or past n: record"
  unfoldable pub write_record : (k id i : ℕ) → ChangeFound
  write_record k id i = cond (leb 1 id && leb id (signals t)) (written k id i) (Bad 13 i)

  -- "18: time inside an open step; write or step end outside one: record"
  unfoldable pub in_order : Bool → (k i : ℕ) → ChangeFound
  in_order inside k i =
      cond (eqb k 1) (cond inside (Bad 18 i) (Time (big (part s (i + 1) 8)) (i + 9)))
      (cond inside (cond (eqb k 4) (StepEnd (i + 1)) (write_record k (big (part s (i + 1) 4)) i)) (Bad 18 i))

  -- "In a record: 17, 7, 18, 13, 19, 14"
  unfoldable pub change_record : Bool → ℕ → ChangeFound
  change_record inside i =
      cond (eqb (record_length (get_or s i 0)) 0) (Bad 17 i)
      (cond (leb (i + record_length (get_or s i 0)) (length s)) (in_order inside (get_or s i 0) i) (Bad 7 i))

  -- "Input ends only between steps; empty input is good."
  unfoldable pub next_change : Bool → ℕ → ChangeFound
  next_change inside i = cond (leb (length s) i) (cond inside (Bad 7 i) (End i)) (change_record inside i)

  unfoldable pub one_record : ChangeFound → ℕ → (Bool → ℕ → Scan) → Scan
  one_record (Time u j) i more = say (time u) j (more true j)
  one_record (Write id v j) i more = say (write id v i) j (more true j)
  one_record (StepEnd j) i more = say step_end j (more false j)
  one_record (End j) i more = done j
  one_record (Bad n p) i more = fault n p

  unfoldable pub changes : (fuel : ℕ) → Bool → ℕ → Scan
  changes zero inside i = one_record (next_change inside i) i (λ b j. done j)
  changes (suc fuel) inside i = one_record (next_change inside i) i (λ b j. changes fuel b j)

  unfoldable pub scan_changes : Scan
  scan_changes = changes (length s) false 0

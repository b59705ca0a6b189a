-- What a change stream becomes: the bytes of each record, and the closing ones; and where it stops, said of the scan
-- that change reading makes.
-- Assumes nothing.
use Rattle.std.specs.Prelude.{ℕ, zero, suc, ◌-◌, ◌^◌, Bool, true, false, cond, ◌&&◌, List, length, ltb, leb}
use Rattle.tables.specs.Lists.{Lists}
use Rattle.rules.specs.Gather.{time, write, step_end}
use Rattle.rules.specs.Scan.{Scan, say}
use Rattle.rules.specs.Scan as scan
use Rattle.changes.specs.Changes.{next_change, scan_changes}
use Rattle.sections_writer.specs.declared.Pen.{Pen}
use Rattle.sections_writer.specs.Writer.{Given, goes, ends, stops, given, begin}
use Rattle.courses.specs.Course.{Course, adds, done, fault}

module _ (t : Lists) (flag : Bool) (s : List ℕ) where
  unfoldable pub on_given : Pen → Given → (Pen → ℕ → Course) → Course
  on_given p (goes bs q j) more = adds bs j (more q j)
  on_given p (ends bs j) more = adds bs j (done j p.steps)
  on_given p (stops n q) more = fault n q

  unfoldable pub written_from : (fuel : ℕ) → Pen → ℕ → Course
  written_from zero p i = on_given p (given t flag s p i (next_change t s p.inside i)) (λ q j. done j q.steps)
  written_from (suc fuel) p i = on_given p (given t flag s p i (next_change t s p.inside i))
      (λ q j. written_from fuel q j)

  unfoldable pub written : Course
  written = written_from (length s) begin 0

-- ---- the same of the scan alone: no pen, and no bytes

-- "Times must not fall, neighbouring times differ by at most 2^63-1": of a time `v` behind one of `u`
unfoldable pub follows : (u v : ℕ) → Bool
follows u v = leb u v && leb (v - u) (2 ^ 63 - 1)

-- the scan up to its first act that breaks this, or "ids rise strictly within a step": "22 ids not rising, 23 time
-- falls or jumps too far, both at the record".
-- `begun`: there was a time, `u`; `id` is the step's last; `i` the record's first byte
unfoldable pub in_order : (begun : Bool) (u id i : ℕ) → Scan → Scan
in_order false u id i (say (time v) p rest) = say (time v) p (in_order true v 0 p rest)
in_order true u id i (say (time v) p rest) =
    cond (follows u v) (say (time v) p (in_order true v 0 p rest)) (scan.fault 23 i)
in_order begun u id i (say (write k x q) p rest) =
    cond (ltb id k) (say (write k x q) p (in_order begun u k p rest)) (scan.fault 22 i)
in_order begun u id i (say step_end p rest) = say step_end p (in_order begun u id p rest)
in_order begun u id i (scan.done j) = scan.done j
in_order begun u id i (scan.fault n p) = scan.fault n p

unfoldable pub orderly : Lists → List ℕ → Scan
orderly t s = in_order false 0 0 0 (scan_changes t s)

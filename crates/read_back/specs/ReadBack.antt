-- Section bytes back to change records: of any section input, its steps one after the other.
-- Assumes nothing.
use Rattle.std.specs.Prelude.{ℕ, ◌+◌, Bool, cond, List, [], ◌∷◌, ◌++◌, length, leb}
use Rattle.numbers.specs.Fixed.{big_bytes}
use Rattle.number_writer.specs.Ended.{Ended, wrote, refused}
use Rattle.states.specs.Letters.{unmapped}
use Rattle.tables.specs.Lists.{Lists, nth}
use Rattle.values.specs.Value.{ordinary}
use Rattle.rules.specs.Gather.{Act, time, write, step_end}
use Rattle.rules.specs.Scan.{Scan, say, done, fault}
use Rattle.section_scan.specs.Sections.{scan_sections}
pub mod Laws
pub mod Turn
pub mod Loop
pub mod Kinds
pub mod Examples

-- the byte of a byte write: "bounded and mapped as in sections"
unfoldable pub byte_of : (kind v : ℕ) → ℕ
byte_of kind v = cond (leb kind 1) (unmapped v) v

-- "2 byte write (id, 1 byte ..) for signal kinds 0..4; 3 wide write (id, 8 bytes, the integer or the real's bits) for 5 and 6"
unfoldable pub write_of : (kind id v : ℕ) → List ℕ
write_of kind id v = cond (leb kind 4) (2 ∷ (big_bytes 4 id ++ (byte_of kind v ∷ []))) (3 ∷ (big_bytes 4 id ++ big_bytes 8 v))

-- "1 time (8 bytes) opens a step; ..; 4 step end (no body)"
unfoldable pub record_of : Lists → Act → List ℕ
record_of t (time u) = 1 ∷ big_bytes 8 u
record_of t (write id v p) = write_of (nth t.kinds id) id v
record_of t step_end = 4 ∷ []

-- "steps are then time records read": how many times an act is
unfoldable pub times : Act → ℕ
times (time u) = 1
times (write id v p) = 0
times step_end = 0

module _ (t : Lists) (room : ℕ) where
  -- "16: .. next unread byte"
  unfoldable pub giving : Scan → List ℕ → (steps : ℕ) → Ended
  giving (say a p rest) out n = cond (leb (length out + length (record_of t a)) room) (giving rest (out ++ record_of t a) (n + times a)) (refused 16 p)
  giving (done i) out n = wrote i out n
  giving (fault k p) out n = refused k p

-- in the crate's own manner, which is the one that is written
unfoldable pub read_back : Lists → Bool → List ℕ → (room : ℕ) → Ended
read_back t flag s room = giving t room (scan_sections t (ordinary flag) s) [] 0

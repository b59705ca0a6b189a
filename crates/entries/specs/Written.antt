-- Sections written from change records, and section bytes read back into them: the answer and what the output holds at the end, from the inputs alone.
-- Assumes nothing.
use Rattle.std.specs.Prelude.{ℕ, Bool, List, length}
use Rattle.tables.specs.Lists.{Lists}
use Rattle.checks.specs.Checked.{checks_without_room}
use Rattle.sections_writer.specs.Writer as writer
use Rattle.read_back.specs.ReadBack as back
use Rattle.answers.specs.Outcome.{LeftKept, leaves_kept}
use Rattle.answers.specs.Filled.{filled}
use Rattle.entries.specs.Entries.{checked}
pub mod Laws
pub mod Unique

-- "Checks 1 to 6 come first": 6 asks about working room, of which these calls are lent none and need none, so it is never given
unfoldable pub write_sections : Lists → Bool → List ℕ → (room : ℕ) → LeftKept
write_sections t flag s room = leaves_kept room (checked (checks_without_room t (length s) room) (filled (writer.write_sections t flag s room)))

unfoldable pub read_back : Lists → Bool → List ℕ → (room : ℕ) → LeftKept
read_back t flag s room = leaves_kept room (checked (checks_without_room t (length s) room) (filled (back.read_back t flag s room)))

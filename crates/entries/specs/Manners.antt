-- Section reading in the two modes of reals.
-- Assumes nothing.
use Rattle.std.specs.Prelude.{◌≡◌, Bool, false, List, ℕ, length}
use Rattle.std.proofs.Common.{ap}
use Rattle.tables.specs.Lists.{Lists}
use Rattle.values.specs.Value.{manner, ordinary}
use Rattle.rules.specs.Scan.{Scan}
use Rattle.section_scan.specs.Sections.Manners.{modes_little}
use Rattle.answers.specs.Outcome.{Lent, leaves}
use Rattle.entries.specs.Entries.{reads, read_sections}

-- "where the flag is little-endian no difference at all": the answer and all lent memory
pub little_one : (t : Lists) (m : Bool) (s : List ℕ) (l : Lent)
    → read_sections t (manner false m) s l ≡ read_sections t (ordinary false) s l
unfolding read_sections
little_one t m s l = ap (λ (sc : Scan). leaves l (reads t (length s) l sc)) (modes_little t m s)

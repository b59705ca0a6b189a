-- The three entries: the answer and what each lent buffer holds at the end, from the inputs alone.
-- Assumes nothing.
use Rattle.std.specs.Prelude.{ℕ, cond, ◌&&◌, List, [], length}
use Rattle.tables.specs.Lists.{Lists}
use Rattle.tables.specs.Checks.{checks, within_limit}
use Rattle.tables.specs.Check.{Check, Passed, Refused}
use Rattle.values.specs.declared.How.{How}
use Rattle.rules.specs.Scan.{Scan}
use Rattle.gather.specs.Run.{Went, went, out, run_all}
use Rattle.section_scan.specs.Sections.{scan_sections}
use Rattle.changes.specs.Changes.{scan_changes}
use Rattle.encoder.specs.Rule.{Ruled, time_rule}
use Rattle.encoder.specs.Rule as rules
use Rattle.answers.specs.Outcome.{Outcome, accepted, refused, Left, Lent, leaves, LeftKept, leaves_kept}
pub mod Numbers
pub mod Scanned
pub mod Reads
pub mod Keeps

-- "Checks 1 to 6 come first"
unfoldable pub checked : Check → Outcome → Outcome
checked Passed o = o
checked (Refused n p) o = refused n p

unfoldable pub outcome : Went → Outcome
outcome (went i g o) = accepted i o.events o.values o.steps
outcome (out n p) = refused n p

unfoldable pub reads : Lists → ℕ → Lent → Scan → Outcome
reads t input l sc =
    checked (checks t input l.events l.values l.room l.list) (outcome (run_all t (record { events = l.events; values = l.values }) sc))

unfoldable pub read_sections : Lists → How → List ℕ → Lent → Left
read_sections t how s l = leaves l (reads t (length s) l (scan_sections t how s))

unfoldable pub read_changes : Lists → List ℕ → Lent → Left
read_changes t s l = leaves l (reads t (length s) l (scan_changes t s))

unfoldable pub ruled : Ruled → Outcome
ruled (rules.ruled i k) = accepted i k.events [] k.steps
ruled (rules.refused n p) = refused n p

unfoldable pub apply_time_rule : List ℕ → (values room : ℕ) → LeftKept
apply_time_rule s values room =
    leaves_kept room (cond (within_limit (length s) && within_limit values && within_limit room) (ruled (time_rule s values room)) (refused 1 0))

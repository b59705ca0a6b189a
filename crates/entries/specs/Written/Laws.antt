-- What the proofs of the two entries search.
-- Assumes nothing.
use Rattle.std.specs.Prelude.{◌≡◌, ℕ, Bool, List, length}
use Rattle.std.proofs.Math.Path.{ap}
use Rattle.std.proofs.Common.{◌∙◌}
use Rattle.tables.specs.Lists.{Lists}
use Rattle.tables.specs.Check.{Check}
use Rattle.tables.specs.Check as check
use Rattle.section_scan.specs.Sections.{with_kinds}
use Rattle.changes.specs.Changes.Record.{of_kinds}
use Rattle.checks.specs.Checked.{checks_without_room}
use Rattle.sections_writer.specs.Writer as writer
use Rattle.sections_writer.specs.Writer.Kinds.{sections_kinds}
use Rattle.read_back.specs.ReadBack as back
use Rattle.read_back.specs.ReadBack.Kinds.{back_kinds}
use Rattle.answers.specs.Outcome.{refused, LeftKept, leaves_kept}
use Rattle.answers.specs.Filled.{filled}
use Rattle.entries.specs.Entries.{checked}
use Rattle.entries.specs.Written.{write_sections, read_back}

module _ (t : Lists) (flag : Bool) (s : List ℕ) (room : ℕ) {c : Check} (e : c ≡ checks_without_room t (length s) room) {x : LeftKept} where
  pub write_passed : c ≡ check.Passed → x ≡ leaves_kept room (filled (writer.write_sections (of_kinds t.kinds) flag s room)) → x ≡ write_sections t flag s room
  unfolding write_sections checked
  write_passed d h = rw (← e, d) (h ∙ ap (λ y. leaves_kept room (filled y)) (sections_kinds t flag s room))

  pub write_refused : {number place : ℕ} → c ≡ check.Refused number place → x ≡ leaves_kept room (refused number place) → x ≡ write_sections t flag s room
  unfolding write_sections checked
  write_refused d h = rw (← e, d) h

  pub back_passed : c ≡ check.Passed → x ≡ leaves_kept room (filled (back.read_back (with_kinds t.kinds) flag s room)) → x ≡ read_back t flag s room
  unfolding read_back checked
  back_passed d h = rw (← e, d) (h ∙ ap (λ y. leaves_kept room (filled y)) (back_kinds t flag s room))

  pub back_refused : {number place : ℕ} → c ≡ check.Refused number place → x ≡ leaves_kept room (refused number place) → x ≡ read_back t flag s room
  unfolding read_back checked
  back_refused d h = rw (← e, d) h

pub ruleset entry_laws = (write_passed, write_refused, back_passed, back_refused)

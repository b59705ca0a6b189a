-- "Where the written bytes are within the section limit, reading them gives the same events as change reading": at the entries, for every table, stream, flag and lent room.
-- Assumes nothing.
use Rattle.std.specs.Prelude.{◌≡◌, refl, ℕ, ◌≤◌, Bool, List, length}
use Rattle.std.proofs.Math.Path.{sym, ap}
use Rattle.std.proofs.Common.{◌∙◌, le-leb}
use Rattle.numbers.specs.Fixed.Laws.{Bytes}
use Rattle.tables.specs.Lists.{Lists}
use Rattle.tables.specs.Checks.{check1, checks}
use Rattle.tables.specs.Check.{Check, Passed, Refused}
use Rattle.values.specs.Value.{ordinary}
use Rattle.event_rooms.specs.Out.{Rooms}
use Rattle.event_rooms.specs.Out.{Rooms}
use Rattle.gather.specs.Run.{Went, went, out, run_all}
use Rattle.section_scan.specs.Sections.{scan_sections}
use Rattle.changes.specs.Changes.{scan_changes}
use Rattle.number_writer.specs.Ended.{wrote}
use Rattle.sections_writer.specs.Writer.{write_sections}
use Rattle.written_scans.specs.Reread.{bare_went}
use Rattle.written_scans.specs.Reread.Events.{same_events}
use Rattle.answers.specs.Outcome.{Outcome, accepted, refused, Lent, Left, answer, event_bytes, value_bytes, padded, leaves}
use Rattle.entries.specs.Entries.{checked, outcome, reads, read_sections, read_changes}

-- an outcome, the bytes read and the place of a refusal aside
unfoldable pub bare_outcome : Outcome → Outcome
bare_outcome (accepted i es vs n) = accepted 0 es vs n
bare_outcome (refused n p) = refused n 0

outcome_bare : (w : Went) → bare_outcome (outcome w) ≡ outcome (bare_went w)
unfolding bare_outcome outcome bare_went
outcome_bare (went i g o) = refl
outcome_bare (out n p) = refl

checked_bare : (c : Check) (x y : Outcome) → bare_outcome x ≡ bare_outcome y → bare_outcome (checked c x) ≡ bare_outcome (checked c y)
unfolding checked
checked_bare Passed x y e = e
checked_bare (Refused n p) x y e = refl

-- inputs within the limit are checked alike
checks_alike : (t : Lists) (a b events values room list : ℕ) → a ≤ 16777215 → b ≤ 16777215 → checks t a events values room list ≡ checks t b events values room list
unfolding checks check1
checks_alike t a b events values room list h g = rw (le-leb a 16777215 h, le-leb b 16777215 g)

events_bare : (x : Outcome) → event_bytes x ≡ event_bytes (bare_outcome x)
unfolding event_bytes bare_outcome
events_bare (accepted i es vs k) = refl
events_bare (refused k p) = refl

values_bare : (x : Outcome) → value_bytes x ≡ value_bytes (bare_outcome x)
unfolding value_bytes bare_outcome
values_bare (accepted i es vs k) = refl
values_bare (refused k p) = refl

number_bare : (x : Outcome) → (answer x).number ≡ (answer (bare_outcome x)).number
unfolding answer bare_outcome
number_bare (accepted i es vs k) = refl
number_bare (refused k p) = refl

steps_bare : (x : Outcome) → (answer x).steps ≡ (answer (bare_outcome x)).steps
unfolding answer bare_outcome
steps_bare (accepted i es vs k) = refl
steps_bare (refused k p) = refl

-- the two entries leave the same events and values, and answer the same number and steps
pub record Alike (x y : Left) : Type 0 where
  pub events : x.events ≡ y.events
  pub values : x.values ≡ y.values
  pub number : x.answer.number ≡ y.answer.number
  pub steps : x.answer.steps ≡ y.answer.steps

module _ (t : Lists) (flag : Bool) (s : List ℕ) (room read : ℕ) (bs : List ℕ) (n : ℕ) (b : Bytes s) (e : write_sections t flag s room ≡ wrote read bs n) (h : length bs ≤ 16777215) (g : length s ≤ 16777215) (l : Lent) where
  pub same_outcome : bare_outcome (reads t (length bs) l (scan_sections t (ordinary flag) bs)) ≡ bare_outcome (reads t (length s) l (scan_changes t s))
  unfolding reads
  same_outcome =
      let r : Rooms = record { events = l.events; values = l.values } in
      let c = checks t (length bs) l.events l.values l.room l.list in
      let x = run_all t r (scan_sections t (ordinary flag) bs) in
      let y = run_all t r (scan_changes t s) in
      checked_bare c (outcome x) (outcome y) (outcome_bare x ∙ (ap outcome (same_events t r flag s room read bs n b e) ∙ sym (outcome_bare y)))
      ∙ ap (λ d. bare_outcome (checked d (outcome y))) (checks_alike t (length bs) (length s) l.events l.values l.room l.list h g)

  pub same_left : Alike (read_sections t (ordinary flag) bs l) (read_changes t s l)
  unfolding read_sections read_changes leaves
  same_left =
      let x = reads t (length bs) l (scan_sections t (ordinary flag) bs) in
      let y = reads t (length s) l (scan_changes t s) in
      record {
        events = ap (padded l.events) (events_bare x ∙ (ap event_bytes same_outcome ∙ sym (events_bare y)));
        values = ap (padded l.values) (values_bare x ∙ (ap value_bytes same_outcome ∙ sym (values_bare y)));
        number = number_bare x ∙ (ap (λ o. (answer o).number) same_outcome ∙ sym (number_bare y));
        steps = steps_bare x ∙ (ap (λ o. (answer o).steps) same_outcome ∙ sym (steps_bare y));
      }

-- Between the two modes of one input: "the same answer and the same value bytes, the same events but for the bits of reals, and where the
-- flag is little-endian no difference at all".
-- Assumes nothing.
use Rattle.std.specs.Prelude.{ℕ, zero, suc, ◌≤◌, ◌<◌, ◌≡◌, Bool, false, List, [], ◌∷◌, map, length, get_or}
use Rattle.std.proofs.Math.Path.{refl, sym, ap}
use Rattle.std.proofs.Common.{◌∙◌, ⊎_elim, arith}
use Rattle.slices.specs.Choice.{le_or_lt}
use Rattle.tables.specs.Lists.{Lists, nth}
use Rattle.tables.specs.Check.{Check, Passed, Refused}
use Rattle.tables.specs.Good.{Signals}
use Rattle.tables.specs.Good.Laws.{good}
use Rattle.values.specs.Value.{manner, ordinary}
use Rattle.rules.specs.Gather.{begin}
use Rattle.rules.specs.Scan.{Scan}
use Rattle.rules.specs.Scan as scan
use Rattle.gather.specs.Run.{gathers, Went, went, out, run_all}
use Rattle.gather.specs.Run.Events.{made}
use Rattle.section_scan.specs.Sections.{scan_sections}
use Rattle.section_scan.specs.Sections.Manners.{blank, modes_alike}
use Rattle.answers.specs.Outcome.{Outcome, answer, value_bytes, Lent, leaves, padded}
use Rattle.answers.specs.declared.Answer.{Answer}
use Rattle.entries.specs.Entries.{checked, outcome, reads, read_sections}
use Rattle.entries.specs.Entries.Reads.{checks_of, rooms_of, events_from}
use Rattle.entries.specs.Manners as entry
use Rattle.real_modes.specs.Blank.{blank_event, unvalued, RealsAlone, made_blank}
use Rattle.real_modes.specs.Alike.{AlikeWent, run_blank}

-- ---- the statement

pub record TwoModes (t : Lists) (flag m m' : Bool) (s : List ℕ) (l : Lent) : Type 0 where
  pub answer : (read_sections t (manner flag m) s l).answer ≡ (read_sections t (manner flag m') s l).answer
  pub values : (read_sections t (manner flag m) s l).values ≡ (read_sections t (manner flag m') s l).values
  -- where the tables pass the checks
  pub events : checks_of t (length s) l ≡ Passed
      → map blank_event (events_from t (scan_sections t (manner flag m) s)) ≡ map blank_event (events_from t (scan_sections t (manner flag m') s))
  -- what the events are made of: the same acts but for the values of reals
  pub acts : blank (unvalued t) (scan_sections t (manner flag m) s) ≡ blank (unvalued t) (scan_sections t (manner flag m') s)

-- ---- tables that pass the checks

past_end : (l : List ℕ) (i : ℕ) → length l ≤ i → get_or l i 0 ≡ 0
past_end [] i h = refl
past_end (x ∷ l) zero h = absurd (omega arith)
past_end (x ∷ l) (suc i) h = past_end l i (omega arith)

reals_alone : (t : Lists) → Signals t → RealsAlone t
unfolding nth
reals_alone t g zero h = absurd (omega arith)
reals_alone t g (suc j) h =
    ⊎_elim (λ (o : length t.kinds ≤ j). absurd (omega (arith, h, past_end t.kinds j o)))
    (λ (o : j < length t.kinds). g.alone j o (λ e. omega (arith, h, e)) (λ e. omega (arith, h, e)))
    (le_or_lt (length t.kinds) j)

-- ---- the answer

alike_ends : (w w' : Went) → AlikeWent w w' → (answer (outcome w) ≡ answer (outcome w')) × (value_bytes (outcome w) ≡ value_bytes (outcome w'))
unfolding outcome answer value_bytes
alike_ends (went i g o) (went i' g' o') h = (rw (h.0, h.1.events, h.1.values, h.1.steps), h.1.values)
alike_ends (went i g o) (out n p) h = absurd h
alike_ends (out n p) (went i g o) h = absurd h
alike_ends (out n p) (out n' p') h = (rw (h.0, h.1), refl)

module _ (t : Lists) (flag m m' : Bool) (s : List ℕ) (l : Lent) where
  abbrev sc : Scan
  sc = scan_sections t (manner flag m) s

  abbrev sc' : Scan
  sc' = scan_sections t (manner flag m') s

  alone : checks_of t (length s) l ≡ Passed → RealsAlone t
  alone e = reals_alone t (good t (length s) l.events l.values l.room l.list e).signals

  ends : (c : Check) → checks_of t (length s) l ≡ c
      → (answer (checked c (outcome (run_all t (rooms_of l) sc))) ≡ answer (checked c (outcome (run_all t (rooms_of l) sc'))))
      × (value_bytes (checked c (outcome (run_all t (rooms_of l) sc))) ≡ value_bytes (checked c (outcome (run_all t (rooms_of l) sc'))))
  unfolding checked
  ends Passed e =
      let a = alike_ends _ _ (run_blank t (rooms_of l) (alone e) sc) in
      let b = alike_ends _ _ (run_blank t (rooms_of l) (alone e) sc') in
      let x = modes_alike t flag m m' s in (
        a.0 ∙ (ap (λ (z : Scan). answer (outcome (run_all t (rooms_of l) z))) x ∙ sym b.0),
        a.1 ∙ (ap (λ (z : Scan). value_bytes (outcome (run_all t (rooms_of l) z))) x ∙ sym b.1),
      )
  ends (Refused n p) e = (refl, refl)

  same_events : checks_of t (length s) l ≡ Passed → map blank_event (events_from t sc) ≡ map blank_event (events_from t sc')
  same_events e =
      let g = begin (gathers t) in
      made_blank t (alone e) g sc
      ∙ (ap (λ (z : Scan). made t g (scan.acts z)) (modes_alike t flag m m' s) ∙ sym (made_blank t (alone e) g sc'))

  pub two_modes : TwoModes t flag m m' s l
  unfolding read_sections reads leaves
  two_modes =
      let w = ends (checks_of t (length s) l) refl in
      record {
        answer = w.0;
        values = ap (padded l.values) w.1;
        events = same_events;
        acts = modes_alike t flag m m' s;
      }

-- where the flag is little: the answer and all lent memory
pub little_modes : (t : Lists) (m : Bool) (s : List ℕ) (l : Lent) → read_sections t (manner false m) s l ≡ read_sections t (ordinary false) s l
little_modes t m s l = entry.little_one t m s l

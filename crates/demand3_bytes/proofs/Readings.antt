-- Demand 3 on the bytes that an accepted reading leaves.
-- Assumes nothing.
use Rattle.std.specs.Prelude.{ℕ, ◌^◌, ◌<◌, ◌≡◌, refl}
use Rattle.std.proofs.Math.Path.{sym, ap}
use Rattle.std.proofs.Common.{◌∙◌, arith}
use mathlib.Core.List.{List, [], ◌++◌, append-nil}
use Rattle.std.proofs.Math.ListN.{length, length-take}
use Rattle.states.specs.Kind.{bits}
use Rattle.tables.specs.Lists.{Lists}
use Rattle.tables.specs.Check.{Check, Passed, Refused}
use Rattle.tables.specs.Good.Laws.{limited, good}
use Rattle.values.specs.declared.How.{How}
use Rattle.rules.specs.Vector.{acts_early}
use Rattle.rules.specs.Gather.{Good, Happening, begin, happens, own}
use Rattle.rules.proofs.Gather.Echo.{nothing_lost}
use Rattle.rules.specs.Demand3 as whole
use Rattle.rules.specs.Scan.{Scan, acts}
use Rattle.gather.specs.Run.{gathers, events_of}
use Rattle.gather.specs.Run.Rendered.{rendered, values_of}
use Rattle.gather.specs.Run.Events.{made}
use Rattle.gather.specs.Run.Good.{gathers_good}
use Rattle.section_scan.specs.Sections.{scan_sections}
use Rattle.changes.specs.Changes.{scan_changes}
use Rattle.answers.specs.Outcome.{Left, Lent}
use Rattle.entries.specs.Entries.{read_sections, read_changes}
use Rattle.entries.specs.Entries.Numbers.{checks_number}
use Rattle.entries.specs.Entries.Reads.{checks_of, events_from}
use Rattle.entries.specs.Demands.{Demand1, Demand2, sections_1, sections_2, sections_3, changes_1, changes_2, changes_3}
use Rattle.demand3_bytes.specs.Statements.{state_in, Demand3, events_in, values_in, OnBytes}
use Rattle.demand3_bytes.specs.Trace.{labelled_from}
use Rattle.demand3_bytes.proofs.Trace.{size, trace, trace_made, trace_said}
use Rattle.demand3_bytes.specs.Stored.{SmallItems}
use Rattle.demand3_bytes.proofs.Stored.{shown_small}
use Rattle.demand3_bytes.proofs.Suited.{Suited, sections_suited, changes_suited}
use Rattle.demand3_bytes.proofs.Watched.{acts_fit}
use Rattle.demand3_bytes.proofs.Sentences.{sentences}
use Rattle.demand3_bytes.proofs.Tells.{tells}
use Rattle.demand3_bytes.proofs.Whole.{has_records, records_are}

-- whatever scans the input
module _ (t : Lists) (input : ℕ) (l : Lent) (sc : Scan) (x : Left) (d1 : Demand1 t input l x)
    (d2 : Demand2 t input l sc x) (d3 : whole.Demand3 acts_early (gathers t) (acts sc))
    (ok : x.answer.number ≡ 0) (suited : Suited t sc) where
  abbrev all : List Happening
  all = happens acts_early (gathers t) (begin (gathers t)) (acts sc)

  passed : checks_of t input l ≡ Passed
  passed = go (checks_of t input l) refl
    where
      go : (c : Check) → checks_of t input l ≡ c → c ≡ Passed
      go Passed e = refl
      go (Refused n p) e =
          let a = d1.checks n p e in
          let b = checks_number t input l.events l.values l.room l.list n p e in
          absurd (omega arith)

  tables_good : Good (gathers t)
  tables_good = gathers_good t input l.events l.values l.room l.list passed

  small : (v : ℕ) → SmallItems (2 ^ bits (state_in t v)) (own v all)
  small v =
      let g = good t input l.events l.values l.room l.list passed in
      let nine = acts_fit t 1 (λ z. omega arith) (omega arith) sc x.answer.read (d2.read ok) suited in
      let two = acts_fit t 3 (λ z. omega arith) (omega arith) sc x.answer.read (d2.read ok) suited in
      shown_small t g.sized g.signals acts_early (acts sc) nine two v

  held : values_in x ≡ values_of (events_of t all) ++ []
  unfolding made
  held = d2.values ok ∙ sym (append-nil (values_of (events_of t all)))

  few : size t all < 2 ^ 32
  unfolding made
  few =
      let a : length (values_in x) ≡ size t all = ap length (d2.values ok) in
      let b = (limited t input l.events l.values l.room l.list passed).of_values in
      omega (arith, length-take x.answer.values x.values, d1.values.long)

  written : events_in x ≡ rendered 0 (events_of t all)
  unfolding made
  written = d2.events ok

  demand3 : Demand3 acts_early (gathers t) (acts sc) (values_in x) (labelled_from 0 (events_of t all))
  demand3 = record {
    order = trace t 0 all;
    input = trace_said t tables_good all (acts sc) (nothing_lost acts_early (gathers t) (begin (gathers t)) (acts sc));
    output = trace_made t 0 all;
    sentences = sentences acts_early t tables_good (acts sc) d3 small (values_in x) [] held few;
  }

  on_bytes : OnBytes t (acts sc) (events_from t sc) x
  unfolding made
  on_bytes = record {
    records = (labelled_from 0 (events_of t all), has_records (events_in x) (events_of t all) written);
    one_way = λ rs qs r q.
        records_are (events_in x) (events_of t all) written rs r
        ∙ sym (records_are (events_in x) (events_of t all) written qs q);
    history =
        λ rs r v. rw (records_are (events_in x) (events_of t all) written rs r)
        (tells acts_early t tables_good (acts sc) d3 small (values_in x) [] held few v);
    demand3 = λ rs r. rw (records_are (events_in x) (events_of t all) written rs r) demand3;
  }

-- ---- at the entries

pub sections_on_bytes : (t : Lists) (how : How) (s : List ℕ) (l : Lent) → (read_sections t how s l).answer.number ≡ 0
    → OnBytes t (acts (scan_sections t how s)) (events_from t (scan_sections t how s)) (read_sections t how s l)
sections_on_bytes t how s l ok =
    on_bytes t (length s) l (scan_sections t how s) (read_sections t how s l) (sections_1 t how s l)
    (sections_2 t how s l) (sections_3 t how s l ok) ok (sections_suited t s how)

pub changes_on_bytes : (t : Lists) (s : List ℕ) (l : Lent) → (read_changes t s l).answer.number ≡ 0
    → OnBytes t (acts (scan_changes t s)) (events_from t (scan_changes t s)) (read_changes t s l)
changes_on_bytes t s l ok =
    on_bytes t (length s) l (scan_changes t s) (read_changes t s l) (changes_1 t s l) (changes_2 t s l)
    (changes_3 t s l ok) ok (changes_suited t s)

-- Every demand and every request, in its sentences: what each call gives has the page's name, and its proof is one citation.
-- The sentences stand where the names lead: `entries` Demands (demands 1 and 2), `rules` Demand3 and `demand3_bytes` Statements
-- (demand 3, of histories and of the output's bytes), `bench` and `written_is_read` Demands (W1, W2), `real_modes` Modes (W3),
-- `call_pages` Pages, `room_bounds` Rooms.
-- Assumes nothing.
use Rattle.std.specs.Prelude.{ℕ, ◌*◌, ◌≤◌, ◌≡◌, ◌≢◌, Bool, false, List, length}
use Rattle.tables.specs.Lists.{Lists}
use Rattle.values.specs.declared.How.{How}
use Rattle.values.specs.Value.{manner, ordinary}
use Rattle.rules.specs.Vector.{acts_early}
use Rattle.rules.specs.Steps.Owned.{history_of}
use Rattle.rules.specs.Once.{Single}
use Rattle.rules.specs.Demand3.{Demand3}
use Rattle.rules.specs.Scan.{acts}
use Rattle.gather.specs.Run.{gathers}
use Rattle.section_scan.specs.Sections.{scan_sections}
use Rattle.changes.specs.Changes.{scan_changes}
use Rattle.answers.specs.Outcome.{Left, LeftKept, Lent}
use Rattle.entries.specs.Entries.{read_sections, read_changes, apply_time_rule}
use Rattle.entries.specs.Entries.Reads.{events_from}
use Rattle.entries.specs.Written.{write_sections, read_back}
use Rattle.entries.specs.Unique as entry-unique
use Rattle.entries.specs.Written.Unique as other-unique
use Rattle.entries.specs.Demands.{Demand1, Demand2, RuleDemand1, RuleDemand2}
use Rattle.entries.specs.Demands as entry
use Rattle.doorquill.specs.declared.Vector.{Vector}
use Rattle.doorquill.specs.Lent.{table_of, checks_lent, read_sections_lent}
use Rattle.doorquill.specs.Lent.Demands.{LentDemand1}
use Rattle.doorquill.specs.Lent.Demands as lent
use Rattle.demand3_bytes.specs.Statements.{OnBytes}
use Rattle.demand3_bytes.proofs.Readings as bytes
use Rattle.real_modes.specs.Modes.{TwoModes}
use Rattle.real_modes.specs.Modes as reals
use Rattle.written_is_read.specs.Demands.{WriteDemand, BackDemand}
use Rattle.written_is_read.specs.Demands as writing
use Rattle.bench.specs.Bench.{bench}
use Rattle.bench.specs.Bench.Unique as benched-unique
use Rattle.bench.specs.Demands.{BenchDemand}
use Rattle.bench.specs.Demands as benching
use Rattle.call_pages.specs.Pages.{RulePage, BenchPage, WritePage, BackPage}
use Rattle.call_pages.proofs.Pages.Proofs as pages
use Rattle.room_bounds.specs.Rooms.{section_events, section_values, change_events, change_values, rule_room, bench_room, write_room, back_room}
use Rattle.room_bounds.specs.Readings as reading-rooms
use Rattle.room_bounds.specs.Calls.Ruled as rule-rooms
use Rattle.room_bounds.specs.Calls.Benched as bench-rooms
use Rattle.room_bounds.specs.Calls.Written as write-rooms
use Rattle.room_bounds.specs.Calls.GivenBack as back-rooms

-- ---- section reading

module _ (t : Lists) (how : How) (s : List ℕ) (l : Lent) where
  -- 1: it ends, stays in its buffers, and refuses with a number and a place and everything zero
  pub sections_1 : Demand1 t (length s) l (read_sections t how s l)
  sections_1 = entry.sections_1 t how s l

  -- 2: its events and values are those of the rules, in order and content
  pub sections_2 : Demand2 t (length s) l (scan_sections t how s) (read_sections t how s l)
  sections_2 = entry.sections_2 t how s l

  -- 3: every write of a vector bit belongs to exactly one event ..
  pub sections_3 : (read_sections t how s l).answer.number ≡ 0 → Demand3 acts_early (gathers t) (acts (scan_sections t how s))
  sections_3 = entry.sections_3 t how s l

  -- .. of the records in the output's bytes
  pub sections_3_bytes : (read_sections t how s l).answer.number ≡ 0
      → OnBytes t (acts (scan_sections t how s)) (events_from t (scan_sections t how s)) (read_sections t how s l)
  sections_3_bytes = bytes.sections_on_bytes t how s l

  -- no event by rule (a), and at most one of a vector in a step
  pub sections_single : (read_sections t how s l).answer.number ≡ 0 → (v : ℕ)
      → Single false (history_of acts_early (gathers t) (acts (scan_sections t how s)) v)
  sections_single = entry.sections_single t how s l

  pub sections_only : (a b : Left) → a ≡ read_sections t how s l → b ≡ read_sections t how s l → a ≡ b
  sections_only = entry-unique.sections_unique t how s l

  pub sections_room : section_events (length s) ≤ l.events → section_values t (length s) ≤ l.values
      → (read_sections t how s l).answer.number ≢ 16
  sections_room = reading-rooms.sections_room t how s l

-- ---- W3: reals in big-endian files

module _ (t : Lists) (flag m m' : Bool) (s : List ℕ) (l : Lent) where
  -- 1, 2 and 3 stand above, once for both modes. Between the modes: the same answer and value bytes, the same events but for the bits of reals
  pub reals_demand : TwoModes t flag m m' s l
  reals_demand = reals.two_modes t flag m m' s l

-- .. and where the flag is little-endian no difference at all
pub reals_little : (t : Lists) (m : Bool) (s : List ℕ) (l : Lent)
    → read_sections t (manner false m) s l ≡ read_sections t (ordinary false) s l
reals_little t m s l = reals.little_modes t m s l

-- ---- section reading over vector records

module _ (vs : List Vector) (kinds refs vecs : List ℕ) (flag : Bool) (s : List ℕ) (l : Lent) (flat : ℕ) where
  pub lent_1 : LentDemand1 (checks_lent (table_of vs kinds refs vecs) (length s) l flat) (length s) l flat
      (read_sections_lent vs kinds refs vecs flag s l flat)
  lent_1 = lent.lent_demand1 vs kinds refs vecs flag s l flat

  -- where `flat` suffices it is section reading of the flat table: 2 and 3 are that call's
  pub lent_reads : flat ≤ 1073741823 → 4 * length vs ≤ flat
      → (read_sections_lent vs kinds refs vecs flag s l flat).left ≡ read_sections (table_of vs kinds refs vecs) (ordinary flag) s l
  lent_reads = lent.lent_reads vs kinds refs vecs flag s l flat

-- ---- change reading

module _ (t : Lists) (s : List ℕ) (l : Lent) where
  pub changes_1 : Demand1 t (length s) l (read_changes t s l)
  changes_1 = entry.changes_1 t s l

  pub changes_2 : Demand2 t (length s) l (scan_changes t s) (read_changes t s l)
  changes_2 = entry.changes_2 t s l

  pub changes_3 : (read_changes t s l).answer.number ≡ 0 → Demand3 acts_early (gathers t) (acts (scan_changes t s))
  changes_3 = entry.changes_3 t s l

  pub changes_3_bytes : (read_changes t s l).answer.number ≡ 0
      → OnBytes t (acts (scan_changes t s)) (events_from t (scan_changes t s)) (read_changes t s l)
  changes_3_bytes = bytes.changes_on_bytes t s l

  pub changes_only : (a b : Left) → a ≡ read_changes t s l → b ≡ read_changes t s l → a ≡ b
  changes_only = entry-unique.changes_unique t s l

  pub changes_room : change_events (length s) ≤ l.events → change_values t (length s) ≤ l.values
      → (read_changes t s l).answer.number ≢ 16
  changes_room = reading-rooms.changes_room t s l

-- ---- the time rule

module _ (s : List ℕ) (values room : ℕ) where
  pub rule_1 : RuleDemand1 s values room (apply_time_rule s values room)
  rule_1 = entry.rule_1 s values room

  -- 2: it keeps what the crate's `Encoder` would keep
  pub rule_2 : RuleDemand2 s values room (apply_time_rule s values room)
  rule_2 = entry.rule_2 s values room

  -- accepted when, refused where
  pub rule_page : RulePage s values room (apply_time_rule s values room)
  rule_page = pages.rule_page s values room

  pub rule_only : (a b : LeftKept) → a ≡ apply_time_rule s values room → b ≡ apply_time_rule s values room → a ≡ b
  rule_only = entry-unique.rule_unique s values room

  pub rule_room_lem : rule_room (length s) ≤ room → (apply_time_rule s values room).answer.number ≢ 16
  rule_room_lem = rule-rooms.rule_room_lem s values room

-- ---- W2: sections written, and read back

module _ (t : Lists) (flag : Bool) (s : List ℕ) (room : ℕ) where
  pub write_1 : writing.Demand1 t (length s) room (write_sections t flag s room)
  write_1 = writing.write_1 t flag s room

  -- what was written is read as the records were, and back
  pub write_demand : WriteDemand t flag s room (write_sections t flag s room)
  write_demand = writing.write_2 t flag s room

  pub write_page : WritePage t flag s room (write_sections t flag s room)
  write_page = pages.write_page t flag s room

  pub write_only : (a b : LeftKept) → a ≡ write_sections t flag s room → b ≡ write_sections t flag s room → a ≡ b
  write_only = other-unique.written_unique t flag s room

  pub write_room_lem : write_room (length s) ≤ room → (write_sections t flag s room).answer.number ≢ 16
  write_room_lem = write-rooms.write_room_lem t flag s room

  pub back_1 : writing.Demand1 t (length s) room (read_back t flag s room)
  back_1 = writing.back_1 t flag s room

  pub back_demand : BackDemand t flag s room (read_back t flag s room)
  back_demand = writing.back_2 t flag s room

  pub back_page : BackPage t flag s room (read_back t flag s room)
  back_page = pages.back_page t flag s room

  pub back_only : (a b : LeftKept) → a ≡ read_back t flag s room → b ≡ read_back t flag s room → a ≡ b
  back_only = other-unique.back_unique t flag s room

  pub back_room_lem : back_room t (length s) ≤ room → (read_back t flag s room).answer.number ≢ 16
  back_room_lem = back-rooms.back_room_lem t s flag room

-- ---- W1: the bench

module _ (events values : List ℕ) (session strobe close room : ℕ) where
  pub bench_1 : benching.Demand1 events values session strobe close room (bench events values session strobe close room)
  bench_1 = benching.demand1 events values session strobe close room

  -- every rise is accounted for, and each count is its own session's
  pub bench_demand : BenchDemand events values session strobe close room (bench events values session strobe close room)
  bench_demand = benching.demand events values session strobe close room

  pub bench_page : BenchPage events values session strobe close room (bench events values session strobe close room)
  bench_page = pages.bench_page events values session strobe close room

  pub bench_only : (a b : LeftKept) → a ≡ bench events values session strobe close room
      → b ≡ bench events values session strobe close room → a ≡ b
  bench_only = benched-unique.bench_unique events values session strobe close room

  pub bench_room_lem : bench_room (length events) ≤ room → (bench events values session strobe close room).answer.number ≢ 16
  bench_room_lem = bench-rooms.bench_room_lem events values session strobe close room

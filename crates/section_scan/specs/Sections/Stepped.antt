-- The acts of section bytes are whole steps, and ids rise in each; where a reading ends, and with what it can be refused.
-- Assumes nothing.
use Prim.Native.Nat.{ℕ, zero, suc, ◌+◌, ◌≤◌, ◌<◌, ◌^◌}
use Rattle.std.proofs.Common.{sym}
use Rattle.std.proofs.Math.Path.{subst}
use Rattle.std.specs.Prelude.{Bool, List, length, replicate, ltb, leb, eqb}
use Rattle.std.proofs.Math.Bool.{true, false}
use native.Mathlib.Omega.{arith}
use borrow.Author.Tests.{leb-true, eqb-false}
use Rattle.slices.specs.Choice.{cond_ind}
use Rattle.slices.specs.Splice.{part}
use Rattle.numbers.specs.Fixed.{fixed, negative}
use Rattle.numbers.specs.Marks.{same, esn, ecy, eod, section_of}
use Rattle.numbers.specs.declared.marks.Section.{Section}
use Rattle.numbers.specs.declared.marks.Section.TheVariants.{Snapshot, Cycle, Directory, Tailer, Unknown}
use Rattle.tables.specs.Lists.{Lists, nth, signals}
use Rattle.values.specs.declared.How.{How}
use Rattle.values.specs.Read.{Read, Value, Bad}
use Rattle.values.specs.Value.{on_read, unsigned, signed, value}
use Rattle.values.specs.Value.Reads.{Reads, unsigned_reads, signed_reads, value_reads}
use Rattle.rules.specs.Steps.{Stepped}
use Rattle.rules.specs.Once.{Rising}
use Rattle.rules.specs.Scan.{Scan, done, fault, acts, and_then, Ends, Faults}
use Rattle.rules.specs.Scan.Ordered.{Ordered, ordered_steps, ordered_end, ordered_fault, ordered_rising, then_then}
use Rattle.section_scan.specs.FoundId.{FoundId}
use Rattle.section_scan.specs.FoundId as ids
use Rattle.section_scan.specs.FoundTime.{FoundTime}
use Rattle.section_scan.specs.FoundTime as times
use Rattle.section_scan.specs.Sections.{field, end_mark, each_value, next_id, one_change, change_list, next_time, snapshot, one_step, steps, cycle, entries, directory, one_section, sections, scan_sections}

-- the numbers with which section bytes are refused
abbrev pub SectionNumber : ℕ → Type 0
SectionNumber n = (7 ≤ n) × (n ≤ 15)

-- ---- parts of any scan

-- what holds of a field, and of what is read: of what follows where it is there, and of the refusal
field_on : (P : Scan → Type 0) (n : ℕ) (s : List ℕ) (i : ℕ) (k : ℕ → Scan) → (i + n ≤ length s → P (k (i + n))) → P (fault 7 i) → P (field n s i k)
unfolding field
field_on P n s i k f g = cond_ind (leb (i + n) (length s)) _ _ P (λ h. f (leb-true _ _ h)) (λ h. g)

read_on : {A : Type 0} (P : A → Type 0) (r : Read) (fails reads : ℕ → ℕ → A) → Reads (λ i. Unit {0}) r → ((n p : ℕ) → SectionNumber n → P (fails n p)) → ((v i : ℕ) → P (reads v i)) → P (on_read r fails reads)
unfolding on_read Reads
read_on P (Value v i) fails reads h f g = g v i
read_on P (Bad n p) fails reads h f g = f n p h

module _ (t : Lists) (s : List ℕ) where
  -- ids rise, all that is read lies in the input
  abbrev Goes : Scan → Bool → ℕ → Type 0
  Goes = Ordered ◌<◌ (λ i. i ≤ length s) SectionNumber

  mark_on : (mark : List ℕ) (i : ℕ) (k : ℕ → Scan) (open? : Bool) (m : ℕ) → ((j : ℕ) → Goes (k j) open? m) → Goes (and_then (end_mark mark s i) k) open? m
  unfolding end_mark and_then Ordered
  mark_on mark i k open? m h =
      field_on (λ sc. Goes (and_then sc k) open? m) 4 s i _
      (λ l. cond_ind (same (part s i 4) mark) _ _ (λ sc. Goes (and_then sc k) open? m) (λ e. h (i + 4)) (λ e. (omega arith, omega arith))) (omega arith, omega arith)

  -- ---- the writes of a step

  each_value_lem : (how : How) (count id i m : ℕ) (k : ℕ → Scan) → m < id → ((j n : ℕ) → Goes (k j) true n) → Goes (and_then (each_value t how s count id i) k) true m
  unfolding each_value and_then Ordered
  each_value_lem how zero id i m k l h = h i m
  each_value_lem how (suc count) id i m k l h =
      read_on (λ sc. Goes (and_then sc k) true m) (value how (nth t.kinds id) s i) _ _ (value_reads how (nth t.kinds id) s i) (λ n p r. r)
      (λ v j. (l, each_value_lem how count (suc id) j id k (omega arith) h))

  IdFound : ℕ → FoundId → Type 0
  IdFound id (ids.Id id' j) = id < id'
  IdFound id (ids.End j) = Unit {0}
  IdFound id (ids.Bad n p) = SectionNumber n

  id_found : (id i : ℕ) → IdFound id (next_id t s id i)
  unfolding next_id IdFound
  id_found id i =
      read_on (IdFound id) (unsigned s i) _ _ (unsigned_reads s i) (λ n p r. r)
      (λ d j. cond_ind (eqb d 0) _ _ (IdFound id) (λ e. tt)
      (λ e. cond_ind (leb (id + d) (signals t)) _ _ (IdFound id) (λ l. omega (arith, eqb-false d 0 e)) (λ l. (omega arith, omega arith))))

  one_change_lem : (how : How) (id : ℕ) (x : FoundId) (more : ℕ → ℕ → Scan) (k : ℕ → Scan) → IdFound id x → ((j n : ℕ) → Goes (k j) true n)
      → ((id' j : ℕ) → Goes (and_then (more id' j) k) true id') → Goes (and_then (one_change t how s x more) k) true id
  unfolding one_change IdFound and_then Ordered
  one_change_lem how id (ids.Id id' j) more k o h rec =
      read_on (λ sc. Goes (and_then sc k) true id) (value how (nth t.kinds id') s j) _ _ (value_reads how (nth t.kinds id') s j) (λ n p r. r) (λ v e. (o, rec id' e))
  one_change_lem how id (ids.End j) more k o h rec = h j id
  one_change_lem how id (ids.Bad n p) more k o h rec = o

  change_list_lem : (how : How) (fuel id i : ℕ) (k : ℕ → Scan) → ((j n : ℕ) → Goes (k j) true n) → Goes (and_then (change_list t how s fuel id i) k) true id
  unfolding change_list and_then Ordered
  change_list_lem how zero id i k h = (omega arith, omega arith)
  change_list_lem how (suc fuel) id i k h = one_change_lem how id (next_id t s id i) _ k (id_found id i) h (λ id' j. change_list_lem how fuel id' j k h)

  -- ---- sections

  module _ (how : How) where
    TimeFound : FoundTime → Type 0
    TimeFound (times.Time u j) = Unit {0}
    TimeFound (times.End j) = Unit {0}
    TimeFound (times.Bad n p) = SectionNumber n

    time_found : (u i : ℕ) → TimeFound (next_time s u i)
    unfolding next_time TimeFound
    time_found u i =
        read_on TimeFound (signed s i) _ _ (signed_reads s i) (λ n p r. r)
        (λ d j. cond_ind (negative 64 d) _ _ TimeFound (λ e. tt) (λ e. cond_ind (ltb (u + d) (2 ^ 64)) _ _ TimeFound (λ l. tt) (λ l. (omega arith, omega arith))))

    module _ (k : ℕ → Scan) (h : (j : ℕ) → Goes (k j) false 0) where
      one_step_lem : (x : FoundTime) (more : ℕ → ℕ → Scan) → TimeFound x → ((u j : ℕ) → Goes (and_then (more u j) k) true 0) → Goes (and_then (one_step t how s x more) k) false 0
      unfolding one_step TimeFound and_then Ordered
      one_step_lem (times.Time u j) more o rec = rec u j
      one_step_lem (times.End j) more o rec = mark_on ecy j k false 0 h
      one_step_lem (times.Bad n p) more o rec = o

      in_steps : (fuel u i : ℕ) → Goes (and_then (steps t how s fuel u i) k) true 0
      unfolding steps and_then Ordered
      in_steps zero u i = (omega arith, omega arith)
      in_steps (suc fuel) u i =
          subst (λ sc. Goes sc true 0) (sym (then_then (change_list t how s (length s) 0 i) _ k))
          (change_list_lem how (length s) 0 i _ (λ j n. one_step_lem (next_time s u j) _ (time_found u j) (λ u' e. in_steps fuel u' e)))

      in_cycle : (i : ℕ) → Goes (and_then (cycle t how s i) k) false 0
      unfolding cycle and_then Ordered
      in_cycle i = field_on (λ sc. Goes (and_then sc k) false 0) 8 s i _ (λ l. in_steps (length s) _ (i + 8)) (omega arith, omega arith)

      in_snapshot : (i : ℕ) → Goes (and_then (snapshot t how s i) k) false 0
      unfolding snapshot and_then Ordered
      in_snapshot i =
          field_on (λ sc. Goes (and_then sc k) false 0) 12 s i _
          (λ l. cond_ind (same (part s i 4) (replicate 4 0)) _ _ (λ sc. Goes (and_then sc k) false 0)
          (λ e.
          subst (λ sc. Goes sc true 0) (sym (then_then (each_value t how s (signals t) 1 (i + 12)) _ k))
          (each_value_lem how (signals t) 1 (i + 12) 0 _ (omega arith) (λ j n. mark_on esn j k false 0 h)))
          (λ e. (omega arith, omega arith)))
          (omega arith, omega arith)

      in_entries : (f : ℕ → Scan) → ((j : ℕ) → Goes (and_then (f j) k) false 0) → (count i : ℕ) → Goes (and_then (and_then (entries t how s count i) f) k) false 0
      unfolding entries and_then Ordered
      in_entries f g zero i = g i
      in_entries f g (suc count) i =
          field_on (λ sc. Goes (and_then (and_then sc f) k) false 0) 4 s i _
          (λ l. field_on (λ sc. Goes (and_then (and_then sc f) k) false 0) 4 s (i + 4) _
          (λ l. cond_ind (negative 32 (fixed how.big_endian (part s (i + 4) 4))) _ _ (λ sc. Goes (and_then (and_then sc f) k) false 0) (λ e. (omega arith, omega arith)) (λ e. in_entries f g count (i + 4 + 4)))
          (omega arith, omega arith))
          (omega arith, omega arith)

      in_directory : (i : ℕ) → Goes (and_then (directory t how s i) k) false 0
      unfolding directory and_then Ordered
      in_directory i =
          field_on (λ sc. Goes (and_then sc k) false 0) 8 s i _
          (λ l. cond_ind (negative 32 (fixed how.big_endian (part s (i + 4) 4))) _ _ (λ sc. Goes (and_then sc k) false 0)
          (λ e. (omega arith, omega arith)) (λ e. in_entries (λ j. end_mark eod s j) (λ j. mark_on eod j k false 0 h) _ (i + 8)))
          (omega arith, omega arith)

      in_section : (x : Section) (mark i : ℕ) → Goes (one_section t how s x mark i k) false 0
      unfolding one_section Ordered
      in_section Snapshot mark i = in_snapshot i
      in_section Cycle mark i = in_cycle i
      in_section Directory mark i = in_directory i
      in_section Tailer mark i = field_on (λ sc. Goes sc false 0) 8 s i done (λ l. l) (omega arith, omega arith)
      in_section Unknown mark i = (omega arith, omega arith)

    in_sections : (fuel i : ℕ) → Goes (sections t how s fuel i) false 0
    unfolding sections Ordered
    in_sections zero i = (omega arith, omega arith)
    in_sections (suc fuel) i = field_on (λ sc. Goes sc false 0) 4 s i _ (λ l. in_section (λ j. sections t how s fuel j) (λ j. in_sections fuel j) (section_of (part s i 4)) i (i + 4)) (omega arith, omega arith)

-- ---- section reading

module _ (t : Lists) (how : How) (s : List ℕ) where
  ordered : Goes t s (scan_sections t how s) false 0
  unfolding scan_sections
  ordered = in_sections t s how (length s) 0

  -- "Snapshot: .. a value for each id 1..n, step end"; "Each step: a change list, step end": where the tailer was read
  pub sections_stepped : (i : ℕ) → Ends i (scan_sections t how s) → Stepped (acts (scan_sections t how s))
  sections_stepped i = ordered_steps _ _ _ (scan_sections t how s) false 0 i ordered

  -- "each added to the last id (from 0) ..; delta 0 ends it"
  pub sections_rising : Rising 0 (acts (scan_sections t how s))
  sections_rising = ordered_rising _ _ (scan_sections t how s) false 0 ordered

  pub sections_end : (i : ℕ) → Ends i (scan_sections t how s) → i ≤ length s
  sections_end i = ordered_end _ _ _ (scan_sections t how s) false 0 i ordered

  pub sections_number : (n p : ℕ) → Faults n p (scan_sections t how s) → SectionNumber n
  sections_number n p = ordered_fault _ _ _ (scan_sections t how s) false 0 n p ordered

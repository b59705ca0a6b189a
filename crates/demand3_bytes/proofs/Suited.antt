-- Every write that a scan says has an id of the table and a value that its signal's kind can take:
-- of section bytes, and of change records.
-- Assumes nothing.
use Prim.Native.Nat.{ℕ, zero, suc, ◌+◌, ◌≤◌}
use Rattle.std.specs.Prelude.{◌≡◌, Bool, List, length, replicate, leb, eqb}
use Rattle.std.proofs.Math.Path.{refl}
use Rattle.std.proofs.Math.Bool.{true, false, cond}
use native.Mathlib.Omega.{arith}
use borrow.Author.Tests.{leb-true, eqb-false}
use Rattle.slices.specs.Choice.{cond_ind}
use Rattle.slices.specs.Splice.{part}
use Rattle.numbers.specs.Fixed.{fixed, negative}
use Rattle.numbers.specs.Marks.{same, esn, ecy, eod, section_of}
use Rattle.numbers.specs.declared.marks.Section.{Section}
use Rattle.numbers.specs.declared.marks.Section.TheVariants.{Snapshot, Cycle, Directory, Tailer, Unknown}
use Rattle.tables.specs.Lists.{Lists, nth, signals}
use Rattle.values.specs.declared.How.{How}
use Rattle.values.specs.Read.{Read, Value, Bad}
use Rattle.values.specs.Value.{on_read, unsigned, value, Suits}
use Rattle.values.specs.Value.Laws.{value_suits}
use Rattle.rules.specs.Gather.{time, write, step_end}
use Rattle.rules.specs.Scan.{Scan, say, done, fault, and_then}
use Rattle.section_scan.specs.FoundId.{FoundId}
use Rattle.section_scan.specs.FoundId as ids
use Rattle.section_scan.specs.FoundTime.{FoundTime}
use Rattle.section_scan.specs.FoundTime as times
use Rattle.section_scan.specs.Sections.{field, end_mark, each_value, next_id, one_change, change_list, next_time, snapshot, one_step, steps, cycle, entries, directory, one_section, sections, scan_sections}
use Rattle.changes.specs.Change.{ChangeFound}
use Rattle.changes.specs.Change as change
use Rattle.changes.specs.Changes.{next_change, one_record, changes, scan_changes}
use Rattle.changes.specs.Changes.Found.{Found, change_found}

module _ (t : Lists) where
  abbrev pub Taken : (i x : ℕ) → Type 0
  Taken i x = (1 ≤ i) × (i ≤ signals t) × Suits (nth t.kinds i) x

  unfoldable pub Suited : Scan → Type 0
  Suited (say (time u) p sc) = Suited sc
  Suited (say (write i x o) p sc) = Taken i x × Suited sc
  Suited (say step_end p sc) = Suited sc
  Suited (done i) = Unit {0}
  Suited (fault n p) = Unit {0}

  suited_then : (sc : Scan) (k : ℕ → Scan) → Suited sc → ((i : ℕ) → Suited (k i)) → Suited (and_then sc k)
  unfolding Suited and_then
  suited_then (say (time u) p sc) k s f = suited_then sc k s f
  suited_then (say (write i x o) p sc) k s f = (s.0, suited_then sc k s.1 f)
  suited_then (say step_end p sc) k s f = suited_then sc k s f
  suited_then (done i) k s f = f i
  suited_then (fault n p) k s f = tt

  module _ (s : List ℕ) where
    on_field : (n i : ℕ) (k : ℕ → Scan) → ((j : ℕ) → Suited (k j)) → Suited (field n s i k)
    unfolding field Suited
    on_field n i k f = cond_ind (leb (i + n) (length s)) _ _ Suited (λ e. f (i + n)) (λ e. tt)

    on_mark : (mark : List ℕ) (i : ℕ) → Suited (end_mark mark s i)
    unfolding end_mark Suited
    on_mark mark i = on_field 4 i _ (λ j. cond_ind (same (part s i 4) mark) _ _ Suited (λ e. tt) (λ e. tt))

    on_value : (how : How) (id i : ℕ) (k : ℕ → ℕ → Scan) → ((v j : ℕ) → Suits (nth t.kinds id) v → Suited (k v j))
        → Suited (on_read (value how (nth t.kinds id) s i) fault k)
    unfolding on_read Suited
    on_value how id i k f = go (value how (nth t.kinds id) s i) refl
      where
        go : (r : Read) → r ≡ value how (nth t.kinds id) s i → Suited (on_read r fault k)
        go (Value v j) e = f v j (value_suits how (nth t.kinds id) s i e refl)
        go (Bad n p) e = tt

    each_value_lem : (how : How) (count id i : ℕ) → 1 ≤ id → id + count ≤ signals t + 1 → Suited (each_value t how s count id i)
    unfolding each_value Suited
    each_value_lem how zero id i a b = tt
    each_value_lem how (suc count) id i a b =
        on_value how id i _ (λ v j u. ((a, omega arith, u), each_value_lem how count (suc id) j (omega arith) (omega arith)))

    IdFound : FoundId → Type 0
    IdFound (ids.Id id j) = (1 ≤ id) × (id ≤ signals t)
    IdFound (ids.End j) = Unit {0}
    IdFound (ids.Bad n p) = Unit {0}

    id_found : (id i : ℕ) → IdFound (next_id t s id i)
    unfolding next_id IdFound on_read
    id_found id i = go (unsigned s i)
      where
        go : (r : Read)
            → IdFound
            (on_read r ids.Bad (λ d j. cond (eqb d 0) (ids.End j)
            (cond (leb (id + d) (signals t)) (ids.Id (id + d) j) (ids.Bad 13 i))))
        go (Value d j) =
            cond_ind (eqb d 0) _ _ IdFound (λ e. tt)
            (λ e. cond_ind (leb (id + d) (signals t)) _ _ IdFound
            (λ l. (omega (arith, eqb-false d 0 e), leb-true _ _ l)) (λ l. tt))
        go (Bad n p) = tt

    one_change_lem : (how : How) (x : FoundId) (more : ℕ → ℕ → Scan) → IdFound x → ((id j : ℕ) → Suited (more id j))
        → Suited (one_change t how s x more)
    unfolding one_change IdFound Suited
    one_change_lem how (ids.Id id j) more o f = on_value how id j _ (λ v k u. ((o.0, o.1, u), f id k))
    one_change_lem how (ids.End j) more o f = tt
    one_change_lem how (ids.Bad n p) more o f = tt

    change_list_lem : (how : How) (fuel id i : ℕ) → Suited (change_list t how s fuel id i)
    unfolding change_list Suited
    change_list_lem how zero id i = tt
    change_list_lem how (suc fuel) id i = one_change_lem how (next_id t s id i) _ (id_found id i) (λ id' j. change_list_lem how fuel id' j)

    -- ---- sections

    module _ (how : How) where
      abbrev flag : Bool
      flag = how.big_endian

      one_step_lem : (x : FoundTime) (more : ℕ → ℕ → Scan) → ((u j : ℕ) → Suited (more u j))
          → Suited (one_step t how s x more)
      unfolding one_step Suited
      one_step_lem (times.Time u j) more f = f u j
      one_step_lem (times.End j) more f = on_mark ecy j
      one_step_lem (times.Bad n p) more f = tt

      in_steps : (fuel u i : ℕ) → Suited (steps t how s fuel u i)
      unfolding steps Suited
      in_steps zero u i = tt
      in_steps (suc fuel) u i =
          suited_then (change_list t how s (length s) 0 i) _ (change_list_lem how (length s) 0 i)
          (λ j. one_step_lem (next_time s u j) _ (λ u' e. in_steps fuel u' e))

      in_cycle : (i : ℕ) → Suited (cycle t how s i)
      unfolding cycle Suited
      in_cycle i = on_field 8 i _ (λ j. in_steps (length s) _ j)

      in_snapshot : (i : ℕ) → Suited (snapshot t how s i)
      unfolding snapshot Suited
      in_snapshot i =
          on_field 12 i _
          (λ j. cond_ind (same (part s i 4) (replicate 4 0)) _ _ Suited
          (λ e. suited_then (each_value t how s (signals t) 1 j) _ (each_value_lem how (signals t) 1 j (omega arith) (omega arith))
          (λ k. on_mark esn k)) (λ e. tt))

      in_entries : (count i : ℕ) → Suited (entries t how s count i)
      unfolding entries Suited
      in_entries zero i = tt
      in_entries (suc count) i =
          on_field 4 i _ (λ j. on_field 4 j _ (λ k. cond_ind (negative 32 (fixed flag (part s j 4))) _ _ Suited
          (λ e. tt) (λ e. in_entries count k)))

      in_directory : (i : ℕ) → Suited (directory t how s i)
      unfolding directory Suited
      in_directory i =
          on_field 8 i _
          (λ j. cond_ind (negative 32 (fixed flag (part s (i + 4) 4))) _ _ Suited (λ e. tt)
          (λ e. suited_then (entries t how s (fixed flag (part s (i + 4) 4)) j) _ (in_entries _ j)
          (λ k. on_mark eod k)))

      in_section : (x : Section) (mark i : ℕ) (k : ℕ → Scan) → ((j : ℕ) → Suited (k j))
          → Suited (one_section t how s x mark i k)
      unfolding one_section Suited
      in_section Snapshot mark i k f = suited_then (snapshot t how s i) k (in_snapshot i) f
      in_section Cycle mark i k f = suited_then (cycle t how s i) k (in_cycle i) f
      in_section Directory mark i k f = suited_then (directory t how s i) k (in_directory i) f
      in_section Tailer mark i k f = on_field 8 i done (λ j. tt)
      in_section Unknown mark i k f = tt

      in_sections : (fuel i : ℕ) → Suited (sections t how s fuel i)
      unfolding sections Suited
      in_sections zero i = tt
      in_sections (suc fuel) i =
          on_field 4 i _ (λ j. in_section (section_of (part s i 4)) i j _ (λ k. in_sections fuel k))

      pub sections_suited : Suited (scan_sections t how s)
      unfolding scan_sections
      sections_suited = in_sections (length s) 0

    -- ---- change records

    one_record_lem : (c : ChangeFound) (i : ℕ) (more : Bool → ℕ → Scan) → Found t s i c
        → ((b : Bool) (j : ℕ) → Suited (more b j)) → Suited (one_record t s c i more)
    unfolding one_record Suited
    one_record_lem (change.Time u j) i more o f = f true j
    one_record_lem (change.Write id v j) i more o f = ((o.2, o.3, o.4), f true j)
    one_record_lem (change.StepEnd j) i more o f = f false j
    one_record_lem (change.End j) i more o f = tt
    one_record_lem (change.Bad n p) i more o f = tt

    in_changes : (fuel : ℕ) (inside : Bool) (i : ℕ) → Suited (changes t s fuel inside i)
    unfolding changes Suited
    in_changes zero inside i =
        one_record_lem (next_change t s inside i) i _ (change_found t s i inside refl refl) (λ b j. tt)
    in_changes (suc fuel) inside i =
        one_record_lem (next_change t s inside i) i _ (change_found t s i inside refl refl) (λ b j. in_changes fuel b j)

    pub changes_suited : Suited (scan_changes t s)
    unfolding scan_changes
    changes_suited = in_changes (length s) false 0

-- Section reading in two manners with one flag: it says the same, but for the values that the manners read otherwise.
-- Assumes nothing.
use Prim.Native.Nat.{ℕ, zero, suc, ◌+◌}
use Rattle.std.specs.Prelude.{◌≡◌, Bool, true, false, cond, List, length, replicate, leb}
use Rattle.std.proofs.Math.Path.{refl, ap, fun_ext}
use Rattle.std.proofs.Common.{sym, ◌∙◌}
use Rattle.slices.specs.Splice.{part}
use Rattle.numbers.specs.Fixed.{fixed, negative}
use Rattle.numbers.specs.Marks.{same, esn, eod, section_of}
use Rattle.numbers.specs.declared.marks.Section.{Section}
use Rattle.numbers.specs.declared.marks.Section.TheVariants.{Snapshot, Cycle, Directory, Tailer, Unknown}
use Rattle.tables.specs.Lists.{Lists, nth, signals}
use Rattle.values.specs.declared.How.{How}
use Rattle.values.specs.Read.{Read, Value, Bad}
use Rattle.values.specs.Value.{manner, ordinary, on_read, value}
use Rattle.values.specs.Value.Manners.{blank_read, without_real, value_blank, value_little}
use Rattle.rules.specs.Gather.{Act, time, write, step_end}
use Rattle.rules.specs.Scan.{Scan, say, done, fault, and_then}
use Rattle.section_scan.specs.FoundId.{FoundId}
use Rattle.section_scan.specs.FoundTime.{FoundTime}
use Rattle.section_scan.specs.FoundId as ids
use Rattle.section_scan.specs.FoundTime as times
use Rattle.section_scan.specs.Sections.{field, end_mark, each_value, next_id, one_change, change_list, next_time, snapshot, one_step, steps, cycle, entries, directory, one_section, sections, scan_sections}

-- ---- a scan in which each written value is changed, by its id

module _ (E : ℕ → ℕ → ℕ) where
  unfoldable pub blank_act : Act → Act
  blank_act (time u) = time u
  blank_act (write id v p) = write id (E id v) p
  blank_act step_end = step_end

  unfoldable pub blank : Scan → Scan
  blank (say a p r) = say (blank_act a) p (blank r)
  blank (done i) = done i
  blank (fault n p) = fault n p

  -- ---- parts of any scan

  blank_then : (sc : Scan) (k : ℕ → Scan) → blank (and_then sc k) ≡ and_then (blank sc) (λ i. blank (k i))
  unfolding blank and_then
  blank_then (say a p r) k = ap (say (blank_act a) p) (blank_then r k)
  blank_then (done i) k = refl
  blank_then (fault n p) k = refl

  then_same : (sc sc' : Scan) (k k' : ℕ → Scan) → blank sc ≡ blank sc' → ((i : ℕ) → blank (k i) ≡ blank (k' i))
      → blank (and_then sc k) ≡ blank (and_then sc' k')
  then_same sc sc' k k' e h =
      let f : ◌≡◌ {A = ℕ → Scan} (λ i. blank (k i)) (λ i. blank (k' i)) = fun_ext h in
      blank_then sc k
      ∙ (ap (λ (x : Scan). and_then x (λ i. blank (k i))) e
      ∙ (ap (λ (g : ℕ → Scan). and_then (blank sc') g) f ∙ sym (blank_then sc' k')))

  cond_same : (b : Bool) (x x' y y' : Scan) → blank x ≡ blank x' → blank y ≡ blank y' → blank (cond b x y) ≡ blank (cond b x' y')
  cond_same true x x' y y' e f = e
  cond_same false x x' y y' e f = f

  field_same : (n : ℕ) (s : List ℕ) (i : ℕ) (k k' : ℕ → Scan) → ((j : ℕ) → blank (k j) ≡ blank (k' j))
      → blank (field n s i k) ≡ blank (field n s i k')
  unfolding field
  field_same n s i k k' h = cond_same (leb (i + n) (length s)) (k (i + n)) (k' (i + n)) (fault 7 i) (fault 7 i) (h (i + n)) refl

  -- ---- a value that is read

  on_blank : (id q : ℕ) (r : Read) (k : ℕ → Scan)
      → blank (on_read r fault (λ v j. say (write id v q) j (k j)))
      ≡ on_read (blank_read (E id) r) fault (λ v j. say (write id v q) j (blank (k j)))
  unfolding blank blank_act blank_read on_read
  on_blank id q (Value v j) k = refl
  on_blank id q (Bad n p) k = refl

  read_same : (id q : ℕ) (r r' : Read) → blank_read (E id) r ≡ blank_read (E id) r' → (k k' : ℕ → Scan)
      → ((j : ℕ) → blank (k j) ≡ blank (k' j))
      → blank (on_read r fault (λ v j. say (write id v q) j (k j))) ≡ blank (on_read r' fault (λ v j. say (write id v q) j (k' j)))
  read_same id q r r' e k k' h =
      let f : ◌≡◌ {A = ℕ → Scan} (λ i. blank (k i)) (λ i. blank (k' i)) = fun_ext h in
      on_blank id q r k
      ∙ (ap (λ (x : Read). on_read x fault (λ v j. say (write id v q) j (blank (k j)))) e
      ∙ (ap (λ (g : ℕ → Scan). on_read (blank_read (E id) r') fault (λ v j. say (write id v q) j (g j))) f
      ∙ sym (on_blank id q r' k')))

  -- ---- two manners with one flag

  module _ (t : Lists) (flag m m' : Bool) (s : List ℕ)
      (alike : (id i : ℕ) → blank_read (E id) (value (manner flag m) (nth t.kinds id) s i) ≡ blank_read (E id) (value (manner flag m') (nth t.kinds id) s i)) where
    abbrev how : How
    how = manner flag m

    abbrev how' : How
    how' = manner flag m'

    each_value_lem : (count id i : ℕ) → blank (each_value t how s count id i) ≡ blank (each_value t how' s count id i)
    unfolding each_value
    each_value_lem zero id i = refl
    each_value_lem (suc count) id i =
        read_same id i (value how (nth t.kinds id) s i) (value how' (nth t.kinds id) s i) (alike id i)
        (λ j. each_value t how s count (suc id) j) (λ j. each_value t how' s count (suc id) j) (λ j. each_value_lem count (suc id) j)

    one_change_lem : (x : FoundId) (more more' : ℕ → ℕ → Scan) → ((id k : ℕ) → blank (more id k) ≡ blank (more' id k))
        → blank (one_change t how s x more) ≡ blank (one_change t how' s x more')
    unfolding one_change
    one_change_lem (ids.Id id j) more more' h =
        read_same id j (value how (nth t.kinds id) s j) (value how' (nth t.kinds id) s j) (alike id j)
        (λ k. more id k) (λ k. more' id k) (λ k. h id k)
    one_change_lem (ids.End j) more more' h = refl
    one_change_lem (ids.Bad n p) more more' h = refl

    change_list_lem : (fuel id i : ℕ) → blank (change_list t how s fuel id i) ≡ blank (change_list t how' s fuel id i)
    unfolding change_list
    change_list_lem zero id i = refl
    change_list_lem (suc fuel) id i =
        one_change_lem (next_id t s id i) (λ id' k. change_list t how s fuel id' k) (λ id' k. change_list t how' s fuel id' k)
        (λ id' k. change_list_lem fuel id' k)

    one_step_lem : (x : FoundTime) (more more' : ℕ → ℕ → Scan) → ((u j : ℕ) → blank (more u j) ≡ blank (more' u j))
        → blank (one_step t how s x more) ≡ blank (one_step t how' s x more')
    unfolding one_step blank blank_act
    one_step_lem (times.Time u j) more more' h = ap (say (time u) j) (h u j)
    one_step_lem (times.End j) more more' h = refl
    one_step_lem (times.Bad n p) more more' h = refl

    in_steps : (fuel u i : ℕ) → blank (steps t how s fuel u i) ≡ blank (steps t how' s fuel u i)
    unfolding steps blank blank_act
    in_steps zero u i = refl
    in_steps (suc fuel) u i =
        then_same (change_list t how s (length s) 0 i) (change_list t how' s (length s) 0 i)
        (λ j. say step_end j (one_step t how s (next_time s u j) (λ u' e. steps t how s fuel u' e)))
        (λ j. say step_end j (one_step t how' s (next_time s u j) (λ u' e. steps t how' s fuel u' e)))
        (change_list_lem (length s) 0 i)
        (λ j. ap (say step_end j) (one_step_lem (next_time s u j) (λ u' e. steps t how s fuel u' e) (λ u' e. steps t how' s fuel u' e) (λ u' e. in_steps fuel u' e)))

    in_cycle : (i : ℕ) → blank (cycle t how s i) ≡ blank (cycle t how' s i)
    unfolding cycle blank blank_act
    in_cycle i =
        let u = fixed flag (part s i 8) in
        field_same 8 s i (λ j. say (time u) j (steps t how s (length s) u j)) (λ j. say (time u) j (steps t how' s (length s) u j))
        (λ j. ap (say (time u) j) (in_steps (length s) u j))

    in_snapshot : (i : ℕ) → blank (snapshot t how s i) ≡ blank (snapshot t how' s i)
    unfolding snapshot blank blank_act
    in_snapshot i =
        let u = fixed flag (part s (i + 4) 8) in
        field_same 12 s i _ _
        (λ j. cond_same (same (part s i 4) (replicate 4 0)) _ _ _ _
        (ap (say (time u) j)
        (then_same (each_value t how s (signals t) 1 j) (each_value t how' s (signals t) 1 j)
        (λ k. say step_end k (end_mark esn s k)) (λ k. say step_end k (end_mark esn s k)) (each_value_lem (signals t) 1 j) (λ k. refl)))
        refl)

    in_entries : (count i : ℕ) → blank (entries t how s count i) ≡ blank (entries t how' s count i)
    unfolding entries
    in_entries zero i = refl
    in_entries (suc count) i =
        field_same 4 s i _ _ (λ j. field_same 4 s j _ _ (λ k. cond_same (negative 32 (fixed flag (part s j 4))) _ _ _ _ refl (in_entries count k)))

    in_directory : (i : ℕ) → blank (directory t how s i) ≡ blank (directory t how' s i)
    unfolding directory
    in_directory i =
        let n = fixed flag (part s (i + 4) 4) in
        field_same 8 s i _ _
        (λ j. cond_same (negative 32 (fixed flag (part s (i + 4) 4))) _ _ _ _ refl
        (then_same (entries t how s n j) (entries t how' s n j) (λ k. end_mark eod s k) (λ k. end_mark eod s k) (in_entries n j) (λ k. refl)))

    in_section : (x : Section) (mark i : ℕ) (k k' : ℕ → Scan) → ((j : ℕ) → blank (k j) ≡ blank (k' j))
        → blank (one_section t how s x mark i k) ≡ blank (one_section t how' s x mark i k')
    unfolding one_section
    in_section Snapshot mark i k k' h = then_same (snapshot t how s i) (snapshot t how' s i) k k' (in_snapshot i) h
    in_section Cycle mark i k k' h = then_same (cycle t how s i) (cycle t how' s i) k k' (in_cycle i) h
    in_section Directory mark i k k' h = then_same (directory t how s i) (directory t how' s i) k k' (in_directory i) h
    in_section Tailer mark i k k' h = refl
    in_section Unknown mark i k k' h = refl

    in_sections : (fuel i : ℕ) → blank (sections t how s fuel i) ≡ blank (sections t how' s fuel i)
    unfolding sections
    in_sections zero i = refl
    in_sections (suc fuel) i =
        field_same 4 s i _ _
        (λ j. in_section (section_of (part s i 4)) i j (λ k. sections t how s fuel k) (λ k. sections t how' s fuel k) (λ k. in_sections fuel k))

    pub scans_alike : blank (scan_sections t (manner flag m) s) ≡ blank (scan_sections t (manner flag m') s)
    unfolding scan_sections
    scans_alike = in_sections (length s) 0

-- ---- the two modes of reals

module _ (t : Lists) (flag m m' : Bool) (s : List ℕ) where
  -- "the same events but for the bits of reals": what is scanned, the values of reals aside
  pub modes_alike : blank (λ id v. without_real (nth t.kinds id) v) (scan_sections t (manner flag m) s)
      ≡ blank (λ id v. without_real (nth t.kinds id) v) (scan_sections t (manner flag m') s)
  modes_alike =
      scans_alike (λ id v. without_real (nth t.kinds id) v) t flag m m' s
      (λ id i. value_blank (manner flag m) (manner flag m') (nth t.kinds id) s i)

-- a scan in which nothing is changed
blank_none : (sc : Scan) → blank (λ id v. v) sc ≡ sc
unfolding blank blank_act
blank_none (say (time u) p r) = ap (say (time u) p) (blank_none r)
blank_none (say (write id v q) p r) = ap (say (write id v q) p) (blank_none r)
blank_none (say step_end p r) = ap (say step_end p) (blank_none r)
blank_none (done i) = refl
blank_none (fault n p) = refl

-- "where the flag is little-endian no difference at all"
pub modes_little : (t : Lists) (m : Bool) (s : List ℕ) → scan_sections t (manner false m) s ≡ scan_sections t (ordinary false) s
modes_little t m s =
    sym (blank_none (scan_sections t (manner false m) s))
    ∙ (scans_alike (λ id v. v) t false m false s (λ id i. ap (blank_read (λ v. v)) (value_little m (nth t.kinds id) s i))
    ∙ blank_none (scan_sections t (ordinary false) s))

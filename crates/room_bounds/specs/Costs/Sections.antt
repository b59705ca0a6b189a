-- The acts of section bytes are covered.
-- Assumes nothing.
use Prim.Native.Nat.{ℕ, zero, suc, ◌+◌, ◌≤◌, ◌<◌, ◌^◌}
use Rattle.std.specs.Prelude.{◌≡◌, refl, Bool, List, length, replicate, ltb, leb, eqb}
use Rattle.std.proofs.Common.{sym, leb-true}
use Rattle.std.proofs.Math.Path.{subst}
use native.Mathlib.Omega.{arith}
use Rattle.slices.specs.Choice.{cond_ind}
use Rattle.slices.specs.Splice.{part}
use Rattle.numbers.specs.Fixed.{fixed, negative}
use Rattle.numbers.specs.Marks.{same, esn, ecy, eod, section_of}
use Rattle.numbers.specs.declared.marks.Section.{Section}
use Rattle.numbers.specs.declared.marks.Section.TheVariants.{Snapshot, Cycle, Directory, Tailer, Unknown}
use Rattle.tables.specs.Lists.{Lists, nth, signals}
use Rattle.values.specs.declared.How.{How}
use Rattle.values.specs.Read.{Read, Value, Bad}
use Rattle.values.specs.Value.{on_read, unsigned, signed, value}
use Rattle.values.specs.Value.Laws.{Ahead, unsigned_ahead, signed_ahead, value_ahead}
use Rattle.rules.specs.Gather.{Act, time, write, step_end}
use Rattle.rules.specs.Scan.{Scan, done, fault, and_then}
use Rattle.rules.specs.Scan.Ordered.{then_then}
use Rattle.section_scan.specs.FoundId.{FoundId}
use Rattle.section_scan.specs.FoundId as ids
use Rattle.section_scan.specs.FoundTime.{FoundTime}
use Rattle.section_scan.specs.FoundTime as times
use Rattle.section_scan.specs.Sections.{field, end_mark, each_value, next_id, one_change, change_list, next_time, snapshot, one_step, steps, cycle, entries, directory, one_section, sections, scan_sections}
use Rattle.room_bounds.specs.Costs.{Covers}

-- what the bytes of each part pay for; `spare` is left of a step's end and pays for a part of the next time
pub record Pays (t : Lists) (s : List ℕ) (cost : Act → ℕ) (budget : ℕ → ℕ) : Type 0 where
  pub spare : ℕ
  pub more : (i j : ℕ) → i ≤ j → budget i ≤ budget j
  pub of_write : (how : How) (id q i v j : ℕ) → value how (nth t.kinds id) s i ≡ Value v j
      → budget i + cost (write id v q) ≤ budget j
  -- a head has 8 bytes or more
  pub of_head : (u i j : ℕ) → i + 8 ≤ j → budget i + cost (time u) + cost step_end ≤ budget j
  pub of_end : (i j : ℕ) → i < j → budget i + cost step_end + spare ≤ budget j
  pub of_time : (u i j : ℕ) → i < j → budget i + cost (time u) ≤ budget j + spare

-- what holds of a field, and of what is read
field_on : (P : Scan → Type 0) (n : ℕ) (s : List ℕ) (i : ℕ) (k : ℕ → Scan) → (i + n ≤ length s → P (k (i + n)))
    → P (fault 7 i) → P (field n s i k)
unfolding field
field_on P n s i k f g = cond_ind (leb (i + n) (length s)) _ _ P (λ h. f (leb-true _ _ h)) (λ h. g)

read_on : {A : Type 0} (P : A → Type 0) (s : List ℕ) (at : ℕ) (r : Read) (fails reads : ℕ → ℕ → A) → Ahead s at r
    → ((n p : ℕ) → P (fails n p))
    → ((v i : ℕ) → r ≡ Value v i → at < i → i ≤ length s → P (reads v i)) → P (on_read r fails reads)
unfolding on_read
read_on P s at (Value v i) fails reads h f g = g v i refl h.0 h.1
read_on P s at (Bad n p) fails reads h f g = f n p

module _ (t : Lists) (s : List ℕ) (cost : Act → ℕ) (budget : ℕ → ℕ) (pays : Pays t s cost budget) where
  abbrev Cov : ℕ → Scan → Type 0
  Cov = Covers cost budget (length s)

  abbrev S : ℕ
  S = cost step_end

  mark_on : (mark : List ℕ) (i n : ℕ) (k : ℕ → Scan) → n ≤ budget i
      → ((j : ℕ) → n ≤ budget j → j ≤ length s → Cov n (k j)) → Cov n (and_then (end_mark mark s i) k)
  unfolding end_mark and_then Covers
  mark_on mark i n k l h =
      field_on (λ sc. Cov n (and_then sc k)) 4 s i _
      (λ g. cond_ind (same (part s i 4) mark) _ _ (λ sc. Cov n (and_then sc k))
      (λ e. h (i + 4) (omega (arith, pays.more i (i + 4) (omega arith))) g) (λ e. tt)) tt

  -- ---- the writes of a step

  each_value_lem : (how : How) (count id i n : ℕ) (k : ℕ → Scan) → n + S ≤ budget i → i ≤ length s
      → ((j m : ℕ) → m + S ≤ budget j → j ≤ length s → Cov m (k j))
      → Cov n (and_then (each_value t how s count id i) k)
  unfolding each_value and_then Covers
  each_value_lem how zero id i n k l g h = h i n l g
  each_value_lem how (suc count) id i n k l g h =
      read_on (λ sc. Cov n (and_then sc k)) s i (value how (nth t.kinds id) s i)
      _ _ (value_ahead how (nth t.kinds id) s i) (λ m p. tt)
      (λ v j e a b. let w =
      pays.of_write how id i i v j e in
      (omega arith, b, each_value_lem how count (suc id) j (n + cost (write id v i)) k (omega arith) b h))

  IdFound : ℕ → FoundId → Type 0
  IdFound i (ids.Id id' j) = (i < j) × (j ≤ length s)
  IdFound i (ids.End j) = (i < j) × (j ≤ length s)
  IdFound i (ids.Bad n p) = Unit {0}

  id_found : (id i : ℕ) → IdFound i (next_id t s id i)
  unfolding next_id IdFound
  id_found id i =
      read_on (IdFound i) s i (unsigned s i) _ _ (unsigned_ahead s i) (λ n p. tt)
      (λ d j e a b. cond_ind (eqb d 0) _ _ (IdFound i) (λ q. (a, b))
      (λ q. cond_ind (leb (id + d) (signals t)) _ _ (IdFound i) (λ l. (a, b)) (λ l. tt)))

  one_change_lem : (how : How) (i n : ℕ) (x : FoundId) (more : ℕ → ℕ → Scan) (k : ℕ → Scan) → IdFound i x → n ≤ budget i
      → ((j m : ℕ) → m + S + pays.spare ≤ budget j → j ≤ length s → Cov m (k j))
      → ((id j m : ℕ) → m ≤ budget j → j ≤ length s → Cov m (and_then (more id j) k))
      → Cov n (and_then (one_change t how s x more) k)
  unfolding one_change IdFound and_then Covers
  one_change_lem how i n (ids.Id id j) more k o l h rec =
      let f = pays.more i j (omega (arith, o.0)) in
      read_on (λ sc. Cov n (and_then sc k)) s j (value how (nth t.kinds id) s j)
      _ _ (value_ahead how (nth t.kinds id) s j) (λ m p. tt)
      (λ v e q a b. let w =
      pays.of_write how id j j v e q in (omega arith, b, rec id e (n + cost (write id v j)) (omega arith) b))
  one_change_lem how i n (ids.End j) more k o l h rec = h j n (omega (arith, pays.of_end i j o.0)) o.1
  one_change_lem how i n (ids.Bad m p) more k o l h rec = tt

  change_list_lem : (how : How) (fuel id i n : ℕ) (k : ℕ → Scan) → n ≤ budget i
      → ((j m : ℕ) → m + S + pays.spare ≤ budget j → j ≤ length s → Cov m (k j))
      → Cov n (and_then (change_list t how s fuel id i) k)
  unfolding change_list and_then Covers
  change_list_lem how zero id i n k l h = tt
  change_list_lem how (suc fuel) id i n k l h =
      one_change_lem how i n (next_id t s id i) _ k (id_found id i) l h (λ id' j m a b. change_list_lem how fuel id' j m k a h)

  -- ---- sections

  module _ (how : How) where
    abbrev flag : Bool
    flag = how.big_endian

    TimeFound : ℕ → FoundTime → Type 0
    TimeFound i (times.Time u j) = (i < j) × (j ≤ length s)
    TimeFound i (times.End j) = (i < j) × (j ≤ length s)
    TimeFound i (times.Bad n p) = Unit {0}

    time_found : (u i : ℕ) → TimeFound i (next_time s u i)
    unfolding next_time TimeFound
    time_found u i =
        read_on (TimeFound i) s i (signed s i) _ _ (signed_ahead s i) (λ n p. tt)
        (λ d j e a b. cond_ind (negative 64 d) _ _ (TimeFound i) (λ q. (a, b))
        (λ q. cond_ind (ltb (u + d) (2 ^ 64)) _ _ (TimeFound i) (λ l. (a, b)) (λ l. tt)))

    module _ (k : ℕ → Scan) (h : (j m : ℕ) → m ≤ budget j → j ≤ length s → Cov m (k j)) where
      one_step_lem : (i n : ℕ) (x : FoundTime) (more : ℕ → ℕ → Scan) → TimeFound i x → n + pays.spare ≤ budget i
          → ((u j m : ℕ) → m ≤ budget j → j ≤ length s → Cov m (and_then (more u j) k))
          → Cov n (and_then (one_step t how s x more) k)
      unfolding one_step TimeFound and_then Covers
      one_step_lem i n (times.Time u j) more o l rec = let f =
          pays.of_time u i j o.0 in (omega arith, o.1, rec u j (n + cost (time u)) (omega arith) o.1)
      one_step_lem i n (times.End j) more o l rec =
          mark_on ecy j n k (omega (arith, pays.more i j (omega (arith, o.0)))) (λ e a b. h e n a b)
      one_step_lem i n (times.Bad m p) more o l rec = tt

      in_steps : (fuel u i n : ℕ) → n ≤ budget i → Cov n (and_then (steps t how s fuel u i) k)
      unfolding steps and_then Covers
      in_steps zero u i n l = tt
      in_steps (suc fuel) u i n l =
          subst (λ sc. Cov n sc) (sym (then_then (change_list t how s (length s) 0 i) _ k))
          (change_list_lem how (length s) 0 i n _ l
          (λ j m a b. (
            omega arith,
            b,
            one_step_lem j (m + S) (next_time s u j) _ (time_found u j) a
                (λ u' e m' c d. in_steps fuel u' e m' c),
          )))

      in_cycle : (i n : ℕ) → n ≤ budget i → Cov n (and_then (cycle t how s i) k)
      unfolding cycle and_then Covers
      in_cycle i n l =
          field_on (λ sc. Cov n (and_then sc k)) 8 s i _
          (λ g. let f = pays.of_head (fixed flag (part s i 8)) i (i + 8) (omega arith) in (
            omega arith,
            g,
            in_steps (length s) _ (i + 8) (n + cost (time (fixed flag (part s i 8))))
                (omega arith),
          )) tt

      in_snapshot : (i n : ℕ) → n ≤ budget i → Cov n (and_then (snapshot t how s i) k)
      unfolding snapshot and_then Covers
      in_snapshot i n l =
          field_on (λ sc. Cov n (and_then sc k)) 12 s i _
          (λ g. cond_ind (same (part s i 4) (replicate 4 0)) _ _ (λ sc. Cov n (and_then sc k))
          (λ e.
          let u = fixed flag (part s (i + 4) 8) in
          let f = pays.of_head u i (i + 12) (omega arith) in (
            omega arith,
            g,
            subst (λ sc. Cov (n + cost (time u)) sc) (sym (then_then (each_value t how s (signals t) 1 (i + 12)) _ k))
                (each_value_lem how (signals t) 1 (i + 12) (n + cost (time u)) _ (omega arith) g
                (λ j m a b. (a, b, mark_on esn j (m + S) k a (λ d x y. h d (m + S) x y)))),
          ))
          (λ e. tt))
          tt

      in_entries : (f : ℕ → Scan) (n : ℕ) → ((j : ℕ) → n ≤ budget j → Cov n (and_then (f j) k)) → (count i : ℕ)
          → n ≤ budget i → Cov n (and_then (and_then (entries t how s count i) f) k)
      unfolding entries and_then Covers
      in_entries f n g zero i l = g i l
      in_entries f n g (suc count) i l =
          field_on (λ sc. Cov n (and_then (and_then sc f) k)) 4 s i _
          (λ a. field_on (λ sc. Cov n (and_then (and_then sc f) k)) 4 s (i + 4) _
          (λ b. cond_ind (negative 32 (fixed flag (part s (i + 4) 4))) _ _ (λ sc. Cov n (and_then (and_then sc f) k))
          (λ e. tt)
          (λ e. in_entries f n g count (i + 4 + 4) (omega (arith, pays.more i (i + 4 + 4) (omega arith)))))
          tt)
          tt

      in_directory : (i n : ℕ) → n ≤ budget i → Cov n (and_then (directory t how s i) k)
      unfolding directory and_then Covers
      in_directory i n l =
          field_on (λ sc. Cov n (and_then sc k)) 8 s i _
          (λ g. cond_ind (negative 32 (fixed flag (part s (i + 4) 4))) _ _ (λ sc. Cov n (and_then sc k)) (λ e. tt)
          (λ e. in_entries (λ j. end_mark eod s j) n (λ j a. mark_on eod j n k a (λ d x y. h d n x y)) _ (i + 8)
          (omega (arith, pays.more i (i + 8) (omega arith)))))
          tt

      one_section_lem : (x : Section) (mark i n : ℕ) → n ≤ budget i → Cov n (one_section t how s x mark i k)
      unfolding one_section Covers
      one_section_lem Snapshot mark i n l = in_snapshot i n l
      one_section_lem Cycle mark i n l = in_cycle i n l
      one_section_lem Directory mark i n l = in_directory i n l
      one_section_lem Tailer mark i n l = field_on (Cov n) 8 s i done (λ g. tt) tt
      one_section_lem Unknown mark i n l = tt

    in_sections : (fuel i n : ℕ) → n ≤ budget i → Cov n (sections t how s fuel i)
    unfolding sections Covers
    in_sections zero i n l = tt
    in_sections (suc fuel) i n l =
        field_on (Cov n) 4 s i _
        (λ g. one_section_lem (λ j. sections t how s fuel j) (λ j m a b. in_sections fuel j m a) (section_of (part s i 4))
        i (i + 4) n (omega (arith, pays.more i (i + 4) (omega arith)))) tt

    pub sections_covered : Covers cost budget (length s) 0 (scan_sections t how s)
    unfolding scan_sections
    sections_covered = in_sections (length s) 0 0 (omega arith)

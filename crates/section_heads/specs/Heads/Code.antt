-- What the proofs of the readers of items search.
-- Assumes nothing.
use Rattle.std.specs.Prelude.{◌≡◌, Bool, true, false, List, length, replicate, None, Option, Some}
use Rattle.std.proofs.Math.Path.{sym, ap}
use Rattle.std.proofs.Common.{◌∙◌, arith, Fits}
use Prim.Native.Nat.{ℕ, zero, suc, ◌+◌, ◌-◌, ◌^◌, ◌≤◌, ◌<◌}
use Rattle.std.specs.Int.{w64}
use Rattle.slices.specs.Splice.{part}
use Rattle.slices.specs.Field.{field_of, field_next}
use Rattle.numbers.specs.Fixed.{positive}
use Rattle.numbers.specs.Marks.{same, eod, section_of}
use Rattle.numbers.specs.declared.marks.Section.{Section}
use Rattle.numbers.specs.declared.marks.Section.TheVariants as section
use Rattle.values.specs.declared.How.{How}
use Rattle.section_heads.specs.declared.Phase.{Phase}
use Rattle.section_heads.specs.declared.Phase.TheVariants.{Mark, Entries, Each, Listed}
use Rattle.section_heads.specs.declared.Stand.{Stand}
use Rattle.section_heads.specs.declared.Said.{Said}
use Rattle.section_heads.specs.declared.Said.TheVariants.{Over}
use Rattle.section_heads.specs.declared.Item.{Item}
use Rattle.section_heads.specs.Heads.{standing, goes, passes, begins, stops, bad, within, end_item, counted, fixed_at, open_tailer, open_snapshot, open_cycle, open_directory, opens, section_item, entry_item}

-- ---- an item is made

module _ (j : ℕ) (a : Said) {x : Stand} {p : Phase} {id u : ℕ} (e : x ≡ standing p id u) {r : Item} where
  pub goes_standing : r ≡ goes j a x → r ≡ goes j a (standing p id u)
  goes_standing q = q ∙ ap (goes j a) e

pub ruleset goes_laws = (goes_standing)

-- ---- fields

module _ (s : List ℕ) (i : ℕ) {f : Option ℕ} where
  pub four_inside : f ≡ field_of 4 s i → {j : ℕ} → f ≡ Some j → i + 4 ≤ length s
  four_inside e d = (field_next 4 s i e d).1

  pub eight_inside : f ≡ field_of 8 s i → {j : ℕ} → f ≡ Some j → i + 8 ≤ length s
  eight_inside e d = (field_next 8 s i e d).1

  pub eight_second : f ≡ field_of 8 s i → {j : ℕ} → f ≡ Some j → i + 4 + 4 ≤ length s
  eight_second e d = omega (arith, (field_next 8 s i e d).1)

  pub twelve_first : f ≡ field_of 12 s i → {j : ℕ} → f ≡ Some j → i + 4 ≤ length s
  twelve_first e d = omega (arith, (field_next 12 s i e d).1)

  pub twelve_second : f ≡ field_of 12 s i → {j : ℕ} → f ≡ Some j → i + 4 + 8 ≤ length s
  twelve_second e d = omega (arith, (field_next 12 s i e d).1)

  pub eight_fits : f ≡ field_of 8 s i → {j : ℕ} → f ≡ Some j → j < 2 ^ 64 → Fits w64 (i + 4)
  eight_fits e d h = omega (arith, (field_next 8 s i e d).0)

  pub twelve_fits : f ≡ field_of 12 s i → {j : ℕ} → f ≡ Some j → j < 2 ^ 64 → Fits w64 (i + 4)
  twelve_fits e d h = omega (arith, (field_next 12 s i e d).0)

-- ---- an end mark

module _ (mark s : List ℕ) (i : ℕ) {f : Option ℕ} (e : f ≡ field_of 4 s i) {r : Item} where
  pub end_short : f ≡ None → r ≡ bad 7 i → r ≡ end_item mark s i
  unfolding end_item within
  end_short d w = w ∙ rw (sym e ∙ d)

  module _ {j : ℕ} (d : f ≡ Some j) {m : Bool} (q : m ≡ same (part s i 4) mark) where
    pub end_found : m ≡ true → r ≡ passes j Mark 0 → r ≡ end_item mark s i
    unfolding end_item within
    end_found t w = w ∙ rw (sym e ∙ d, sym q ∙ t)

    pub end_wrong : m ≡ false → r ≡ bad 10 i → r ≡ end_item mark s i
    unfolding end_item within
    end_wrong t w = w ∙ rw (sym e ∙ d, sym q ∙ t)

pub ruleset end_laws = (four_inside, end_short, end_found, end_wrong)

-- ---- what a section opens

module _ (s : List ℕ) (i : ℕ) {f : Option ℕ} (e : f ≡ field_of 8 s i) {r : Item} where
  pub tailer_over : {j : ℕ} → f ≡ Some j → r ≡ stops j Over → r ≡ open_tailer s i
  unfolding open_tailer within
  tailer_over d w = w ∙ rw (sym e ∙ d)

  pub tailer_short : f ≡ None → r ≡ bad 7 i → r ≡ open_tailer s i
  unfolding open_tailer within
  tailer_short d w = w ∙ rw (sym e ∙ d)

pub ruleset tailer_laws = (tailer_over, tailer_short)

module _ (how : How) (s : List ℕ) (i : ℕ) {f : Option ℕ} {r : Item} where
  module _ (e : f ≡ field_of 12 s i) where
    pub snapshot_short : f ≡ None → r ≡ bad 7 i → r ≡ open_snapshot how s i
    unfolding open_snapshot within
    snapshot_short d w = w ∙ rw (sym e ∙ d)

    module _ {j : ℕ} (d : f ≡ Some j) {m : Bool} (q : m ≡ same (part s i 4) (replicate 4 0)) where
      pub snapshot_wrong : m ≡ false → r ≡ bad 9 i → r ≡ open_snapshot how s i
      unfolding open_snapshot within
      snapshot_wrong t w = w ∙ rw (sym e ∙ d, sym q ∙ t)

      pub snapshot_opens : m ≡ true → {u : ℕ} → u ≡ fixed_at how s (i + 4) 8 → r ≡ begins j u Each → r ≡ open_snapshot how s i
      unfolding open_snapshot within
      snapshot_opens t z w = w ∙ rw (sym e ∙ d, sym q ∙ t, z)

  module _ (e : f ≡ field_of 8 s i) where
    pub cycle_short : f ≡ None → r ≡ bad 7 i → r ≡ open_cycle how s i
    unfolding open_cycle within
    cycle_short d w = w ∙ rw (sym e ∙ d)

    pub directory_short : f ≡ None → r ≡ bad 7 i → r ≡ open_directory how s i
    unfolding open_directory within
    directory_short d w = w ∙ rw (sym e ∙ d)

    module _ {j : ℕ} (d : f ≡ Some j) where
      pub cycle_opens : {u : ℕ} → u ≡ fixed_at how s i 8 → r ≡ begins j u Listed → r ≡ open_cycle how s i
      unfolding open_cycle within
      cycle_opens z w = w ∙ rw (sym e ∙ d, z)

      module _ {p : Option ℕ} (q : p ≡ positive (fixed_at how s (i + 4) 4)) where
        pub directory_opens : {n : ℕ} → p ≡ Some n → r ≡ passes j Entries n → r ≡ open_directory how s i
        unfolding open_directory within counted
        directory_opens t w = w ∙ rw (sym e ∙ d, sym q ∙ t)

        pub directory_wrong : p ≡ None → r ≡ bad 11 (i + 4) → r ≡ open_directory how s i
        unfolding open_directory within counted
        directory_wrong t w = w ∙ rw (sym e ∙ d, sym q ∙ t)

pub ruleset snapshot_laws = (twelve_fits, twelve_first, twelve_second, snapshot_short, snapshot_wrong, snapshot_opens)

pub ruleset cycle_laws = (eight_inside, cycle_short, cycle_opens)

pub ruleset directory_laws = (eight_fits, eight_second, directory_short, directory_opens, directory_wrong)

-- ---- a section

module _ (how : How) (s : List ℕ) (mark i : ℕ) {k : Section} {r : Item} where
  pub is_snapshot : k ≡ section.Snapshot → r ≡ open_snapshot how s i → r ≡ opens how s k mark i
  unfolding opens
  is_snapshot d e = rw d e

  pub is_cycle : k ≡ section.Cycle → r ≡ open_cycle how s i → r ≡ opens how s k mark i
  unfolding opens
  is_cycle d e = rw d e

  pub is_directory : k ≡ section.Directory → r ≡ open_directory how s i → r ≡ opens how s k mark i
  unfolding opens
  is_directory d e = rw d e

  pub is_tailer : k ≡ section.Tailer → r ≡ open_tailer s i → r ≡ opens how s k mark i
  unfolding opens
  is_tailer d e = rw d e

  pub is_unknown : k ≡ section.Unknown → r ≡ bad 8 mark → r ≡ opens how s k mark i
  unfolding opens
  is_unknown d e = rw d e

pub ruleset opens_laws = (is_snapshot, is_cycle, is_directory, is_tailer, is_unknown)

module _ (how : How) (s : List ℕ) (i : ℕ) {f : Option ℕ} (e : f ≡ field_of 4 s i) {r : Item} where
  pub section_short : f ≡ None → r ≡ bad 7 i → r ≡ section_item how s i
  unfolding section_item within
  section_short d w = w ∙ rw (sym e ∙ d)

  pub section_found : {j : ℕ} → f ≡ Some j → {k : Section} → k ≡ section_of (part s i 4) → r ≡ opens how s k i j → r ≡ section_item how s i
  unfolding section_item within
  section_found d q w = w ∙ rw (q, sym e ∙ d)

pub ruleset section_laws = (four_inside, section_short, section_found)

-- ---- an entry

module _ (how : How) (s : List ℕ) where
  pub entry_none : (left i : ℕ) → left ≡ 0 → {r : Item} → r ≡ end_item eod s i → r ≡ entry_item how s left i
  unfolding entry_item
  entry_none zero i z e = e
  entry_none (suc left) i z e = absurd (omega arith)

  less_one : (left : ℕ) → (left ≡ 0 → ⊥) → suc (left - 1) ≡ left
  less_one left n = omega (arith, n)

  module _ (left i : ℕ) (n : left ≡ 0 → ⊥) {f : Option ℕ} (e : f ≡ field_of 4 s i) {r : Item} where
    pub entry_short : f ≡ None → r ≡ bad 7 i → r ≡ entry_item how s left i
    unfolding entry_item within
    entry_short d w = w ∙ rw (← less_one left n, sym e ∙ d)

    module _ {j : ℕ} (d : f ≡ Some j) {g : Option ℕ} (h : g ≡ field_of 4 s j) where
      pub entry_second : g ≡ None → r ≡ bad 7 j → r ≡ entry_item how s left i
      unfolding entry_item within
      entry_second z w = w ∙ rw (← less_one left n, sym e ∙ d, sym h ∙ z)

      module _ {k : ℕ} (z : g ≡ Some k) {p : Option ℕ} (q : p ≡ positive (fixed_at how s j 4)) where
        pub entry_wrong : p ≡ None → r ≡ bad 11 j → r ≡ entry_item how s left i
        unfolding entry_item within counted
        entry_wrong t w = w ∙ rw (← less_one left n, sym e ∙ d, sym h ∙ z, sym q ∙ t)

        pub entry_passed : {m : ℕ} → p ≡ Some m → r ≡ passes k Entries (left - 1) → r ≡ entry_item how s left i
        unfolding entry_item within counted
        entry_passed t w = w ∙ (passed ∙ ap (λ x. entry_item how s x i) (less_one left n))
          where
            passed : passes k Entries (left - 1) ≡ entry_item how s (suc (left - 1)) i
            passed = rw (sym e ∙ d, sym h ∙ z, sym q ∙ t)

pub ruleset entry_laws = (four_inside, entry_none, entry_short, entry_second, entry_wrong, entry_passed)

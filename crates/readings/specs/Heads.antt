-- What items between steps say: nothing, or a time, after which values follow; and what is left behind them.
-- Assumes nothing.
use Prim.Native.Nat.{ℕ, zero, suc, ◌+◌}
use Rattle.std.specs.Prelude.{◌≡◌, true, false, List, replicate, None, Option, Some}
use Rattle.std.proofs.Math.Path.{refl}
use Rattle.std.proofs.Common.{subst}
use Rattle.slices.specs.Choice.{cond_ind}
use Rattle.slices.specs.Splice.{part}
use Rattle.slices.specs.Field.{field_of}
use Rattle.numbers.specs.Fixed.{positive}
use Rattle.numbers.specs.Marks.{same, ecy, eod, esn, section_of}
use Rattle.numbers.specs.declared.marks.Section.{Section}
use Rattle.numbers.specs.declared.marks.Section.TheVariants as section
use Rattle.tables.specs.Lists.{Lists}
use Rattle.rules.specs.Scan.{Scan}
use Rattle.section_scan.specs.Sections.{next_time}
use Rattle.values.specs.declared.How.{How}
use Rattle.section_heads.specs.declared.Phase.{Phase}
use Rattle.section_heads.specs.declared.Phase.TheVariants.{Mark, Entries, Each, Closing, Listed, Between}
use Rattle.section_heads.specs.declared.Stand.{Stand}
use Rattle.section_heads.specs.declared.Said.{Said}
use Rattle.section_heads.specs.declared.Said.TheVariants.{Nothing, Time, Write, StepEnd, Over, Bad}
use Rattle.section_heads.specs.declared.Item.{Item}
use Rattle.section_heads.specs.Heads.{within, end_item, counted, fixed_at, open_tailer, open_snapshot, open_cycle, open_directory, opens, section_item, entry_item}
use Rattle.section_scan.specs.FoundTime.{FoundTime}
use Rattle.section_scan.specs.FoundTime as times
use Rattle.sections.specs.Item.{time_item, head_of, head_item, in_values, next_item}
use Rattle.sections.specs.Item.Scans.{rank, Left, Follows, item_follows}

-- nothing, or a time, after which values follow
abbrev pub HeadBy : Said → Stand → Type 0
HeadBy Nothing y = in_values y.phase ≡ false
HeadBy (Time u) y = (in_values y.phase ≡ true) × (y.id ≡ 0) × (y.time ≡ u)
HeadBy (Write v id) y = ⊥
HeadBy StepEnd y = ⊥
HeadBy Over y = Unit {0}
HeadBy (Bad n) y = Unit {0}

abbrev pub IsHead : Item → Type 0
IsHead y = HeadBy y.said y.then

within_says : (f : Option ℕ) (k : ℕ → Item) (i : ℕ) → ((j : ℕ) → IsHead (k j)) → IsHead (within f k i)
unfolding within
within_says (Some j) k i h = h j
within_says None k i h = tt

counted_says : (p : Option ℕ) (i : ℕ) (k : ℕ → Item) → ((n : ℕ) → IsHead (k n)) → IsHead (counted p i k)
unfolding counted
counted_says (Some n) i k h = h n
counted_says None i k h = tt

module _ (how : How) (s : List ℕ) where
  end_says : (mark : List ℕ) (i : ℕ) → IsHead (end_item mark s i)
  unfolding end_item
  end_says mark i = within_says (field_of 4 s i) _ i (λ j. cond_ind (same (part s i 4) mark) _ _ IsHead (λ z. refl) (λ z. tt))

  snapshot_says : (i : ℕ) → IsHead (open_snapshot how s i)
  unfolding open_snapshot
  snapshot_says i = within_says (field_of 12 s i) _ i (λ j. cond_ind (same (part s i 4) (replicate 4 0)) _ _ IsHead (λ z. (refl, refl, refl)) (λ z. tt))

  cycle_says : (i : ℕ) → IsHead (open_cycle how s i)
  unfolding open_cycle
  cycle_says i = within_says (field_of 8 s i) _ i (λ j. (refl, refl, refl))

  directory_says : (i : ℕ) → IsHead (open_directory how s i)
  unfolding open_directory
  directory_says i = within_says (field_of 8 s i) _ i (λ j. counted_says (positive (fixed_at how s (i + 4) 4)) (i + 4) _ (λ n. refl))

  opens_says : (k : Section) (mark i : ℕ) → IsHead (opens how s k mark i)
  unfolding opens open_tailer
  opens_says section.Snapshot mark i = snapshot_says i
  opens_says section.Cycle mark i = cycle_says i
  opens_says section.Directory mark i = directory_says i
  opens_says section.Tailer mark i = within_says (field_of 8 s i) _ i (λ j. tt)
  opens_says section.Unknown mark i = tt

  section_says : (i : ℕ) → IsHead (section_item how s i)
  unfolding section_item
  section_says i = within_says (field_of 4 s i) _ i (λ j. opens_says (section_of (part s i 4)) i j)

  entry_says : (left i : ℕ) → IsHead (entry_item how s left i)
  unfolding entry_item
  entry_says zero i = end_says eod i
  entry_says (suc left) i =
      within_says (field_of 4 s i) _ i (λ j. within_says (field_of 4 s j) _ j (λ k. counted_says (positive (fixed_at how s j 4)) j _ (λ n. refl)))

  time_says : (c : FoundTime) → IsHead (time_item s c)
  unfolding time_item
  time_says (times.Time u j) = (refl, refl, refl)
  time_says (times.End j) = end_says ecy j
  time_says (times.Bad n p) = tt

  phase_says : (p : Phase) (id u i : ℕ) → IsHead (head_of how s p id u i)
  unfolding head_of
  phase_says Mark id u i = section_says i
  phase_says Entries id u i = entry_says id i
  phase_says Each id u i = section_says i
  phase_says Closing id u i = end_says esn i
  phase_says Listed id u i = section_says i
  phase_says Between id u i = time_says (next_time s u i)

  pub head_says : (x : Stand) (i : ℕ) → IsHead (head_item how s x i)
  unfolding head_item
  head_says x i = phase_says x.phase x.id x.time i

-- ---- the scan where a reading stands

is_head : (t : Lists) (how : How) (s : List ℕ) (x : Stand) (i : ℕ) → in_values x.phase ≡ false → next_item t.kinds how s x i ≡ head_item how s x i
unfolding next_item
is_head t how s x i e = rw e

pub head_follows : {t : Lists} {how : How} {s : List ℕ} {x : Stand} {i : ℕ} {sc : Scan} → Left t how s x i sc → in_values x.phase ≡ false → Follows t how s (rank x.phase) i sc (head_item how s x i)
head_follows {t} {how} {s} {x} {i} {sc} l e = subst (Follows t how s (rank x.phase) i sc) (is_head t how s x i e) (item_follows t how s x i l)

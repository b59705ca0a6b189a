-- Where a reading of sections stands, and what it finds there outside steps.
-- Assumes nothing.
use Rattle.std.specs.Prelude.{ℕ, zero, suc, ◌+◌, cond, List, replicate, None, Option, Some}
use Rattle.slices.specs.Splice.{part}
use Rattle.slices.specs.Field.{field_of}
use Rattle.numbers.specs.Fixed.{fixed, positive}
use Rattle.numbers.specs.Marks.{same, eod, section_of}
use Rattle.numbers.specs.declared.marks.Section.{Section}
use Rattle.numbers.specs.declared.marks.Section.TheVariants as section
use Rattle.values.specs.declared.How.{How}
use Rattle.section_heads.specs.declared.Phase.{Phase}
use Rattle.section_heads.specs.declared.Phase.TheVariants.{Mark, Entries, Each, Listed}
use Rattle.section_heads.specs.declared.Stand.{Stand}
use Rattle.section_heads.specs.declared.Said.{Said}
use Rattle.section_heads.specs.declared.Said.TheVariants.{Nothing, Time, Over, Bad}
use Rattle.section_heads.specs.declared.Item.{Item}
pub mod Code

-- ---- what is found

abbrev pub standing : Phase → (id u : ℕ) → Stand
standing p id u = record { phase = p; id = id; time = u }

abbrev pub goes : (j : ℕ) → Said → Stand → Item
goes j a x = record { at = j; said = a; then = x }

-- nothing is said
abbrev pub passes : (j : ℕ) → Phase → (id : ℕ) → Item
passes j p id = goes j Nothing (standing p id 0)

-- a step begins at a time
abbrev pub begins : (j u : ℕ) → Phase → Item
begins j u p = goes j (Time u) (standing p 0 u)

-- the reading ends: the input is over, or it is refused by a number and a place
abbrev pub stops : (j : ℕ) → Said → Item
stops j a = goes j a (standing Mark 0 0)

abbrev pub bad : (n p : ℕ) → Item
bad n p = stops p (Bad (n, p))

-- "7: input ends inside a mark, head, field ..: its first byte"
unfoldable pub within : Option ℕ → (ℕ → Item) → ℕ → Item
within (Some j) k i = k j
within None k i = bad 7 i

-- "10: wrong end mark: mark"
unfoldable pub end_item : (mark s : List ℕ) → ℕ → Item
end_item mark s i = within (field_of 4 s i) (λ j. cond (same (part s i 4) mark) (passes j Mark 0) (bad 10 i)) i

-- a number that must not be negative: "11: negative directory number: that number"
unfoldable pub counted : Option ℕ → ℕ → (ℕ → Item) → Item
counted (Some n) i k = k n
counted None i k = bad 11 i

-- ---- outside steps

-- "Tailer: 8 more bytes of any content; the tailer ends the reading"
unfoldable pub open_tailer : (s : List ℕ) → ℕ → Item
open_tailer s i = within (field_of 8 s i) (λ j. stops j Over) i

module _ (how : How) (s : List ℕ) where
  -- "Integers of fixed size follow the flag.": the one of so many bytes at a place
  abbrev pub fixed_at : (i bytes : ℕ) → ℕ
  fixed_at i bytes = fixed how.big_endian (part s i bytes)

  -- "Snapshot: a 12-byte head (four zero bytes, then a signed 64-bit time ..)"; "9: snapshot zeros wrong: head"
  unfoldable pub open_snapshot : ℕ → Item
  open_snapshot i = within (field_of 12 s i) (λ j. cond (same (part s i 4) (replicate 4 0)) (begins j (fixed_at (i + 4) 8) Each) (bad 9 i)) i

  -- "Cycle: an 8-byte time with no zeros before it."
  unfoldable pub open_cycle : ℕ → Item
  open_cycle i = within (field_of 8 s i) (λ j. begins j (fixed_at i 8) Listed) i

  -- "Directory: an 8-byte head (four unchecked bytes, then a signed 32-bit count)"
  unfoldable pub open_directory : ℕ → Item
  open_directory i = within (field_of 8 s i) (λ j. counted (positive (fixed_at (i + 4) 4)) (i + 4) (λ n. passes j Entries n)) i

  -- "8: unknown section mark: mark"
  unfoldable pub opens : Section → (mark i : ℕ) → Item
  opens section.Snapshot mark i = open_snapshot i
  opens section.Cycle mark i = open_cycle i
  opens section.Directory mark i = open_directory i
  opens section.Tailer mark i = open_tailer s i
  opens section.Unknown mark i = bad 8 mark

  unfoldable pub section_item : ℕ → Item
  section_item i = within (field_of 4 s i) (λ j. opens (section_of (part s i 4)) i j) i

  -- "count entries of a 4-byte id and a signed 32-bit position, `EOD`"
  unfoldable pub entry_item : (left i : ℕ) → Item
  entry_item zero i = end_item eod s i
  entry_item (suc left) i = within (field_of 4 s i) (λ j. within (field_of 4 s j) (λ k. counted (positive (fixed_at j 4)) j (λ n. passes k Entries left)) j) i

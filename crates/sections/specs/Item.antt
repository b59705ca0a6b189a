-- Section bytes one item at a time: between the values of steps, the values of a step, and any item.
-- Assumes nothing.
use Rattle.std.specs.Prelude.{ℕ, ◌+◌, Bool, true, false, cond, List, length, ltb, eqb}
use Rattle.tables.specs.Lists.{nth}
use Rattle.values.specs.Read.{Read}
use Rattle.values.specs.Read as read
use Rattle.values.specs.Value.{on_read, value}
use Rattle.section_scan.specs.Sections.{with_kinds}
use Rattle.section_scan.specs.Sections.{next_id, next_time}
use Rattle.section_scan.specs.FoundTime.{FoundTime}
use Rattle.section_scan.specs.FoundTime as times
use Rattle.numbers.specs.Marks.{ecy, esn}
use Rattle.section_scan.specs.FoundId.{FoundId}
use Rattle.section_scan.specs.FoundId as ids
use Rattle.values.specs.declared.How.{How}
use Rattle.section_heads.specs.declared.Phase.{Phase}
use Rattle.section_heads.specs.declared.Phase.TheVariants.{Mark, Entries, Each, Closing, Listed, Between}
use Rattle.section_heads.specs.declared.Stand.{Stand}
use Rattle.section_heads.specs.declared.Said.TheVariants.{Write, StepEnd}
use Rattle.section_heads.specs.declared.Item.{Item}
use Rattle.section_heads.specs.Heads.{standing, goes, begins, bad, end_item, section_item, entry_item}
pub mod Code
pub mod Scans

-- ---- between the values of steps

-- a delta: another step, or the cycle's end
unfoldable pub time_item : List ℕ → FoundTime → Item
time_item s (times.Time u j) = begins j u Listed
time_item s (times.End j) = end_item ecy s j
time_item s (times.Bad n p) = bad n p

unfoldable pub head_of : How → List ℕ → Phase → (id u i : ℕ) → Item
head_of how s Mark id u i = section_item how s i
head_of how s Entries left u i = entry_item how s left i
head_of how s Each id u i = section_item how s i
head_of how s Closing id u i = end_item esn s i
head_of how s Listed id u i = section_item how s i
head_of how s Between id u i = time_item s (next_time s u i)

unfoldable pub head_item : How → List ℕ → Stand → ℕ → Item
head_item how s x i = head_of how s x.phase x.id x.time i

-- ---- the values of a step

abbrev pub in_values : Phase → Bool
in_values Mark = false
in_values Entries = false
in_values Each = true
in_values Closing = false
in_values Listed = true
in_values Between = false

abbrev pub is_each : Phase → Bool
is_each Mark = false
is_each Entries = false
is_each Each = true
is_each Closing = false
is_each Listed = false
is_each Between = false

-- a snapshot's end mark, or a cycle's delta
unfoldable pub after_values : Phase → Phase
after_values p = cond (is_each p) Closing Between

-- the next id and the place after its delta, id 0 at the list's end
unfoldable pub id_of : FoundId → Read
id_of (ids.Id id j) = read.Value id j
id_of (ids.End j) = read.Value 0 j
id_of (ids.Bad n p) = read.Bad n p

module _ (kinds s : List ℕ) where
  unfoldable pub id_in : (id i : ℕ) → Read
  id_in id i = id_of (next_id (with_kinds kinds) s id i)

  -- "a value for each id 1..n, step end"
  unfoldable pub each_id : (id i : ℕ) → Read
  each_id id i = cond (ltb id (length kinds)) (read.Value (id + 1) i) (read.Value 0 i)

  unfoldable pub next_of : Phase → (id i : ℕ) → Read
  next_of p id i = cond (is_each p) (each_id id i) (id_in id i)

module _ (kinds : List ℕ) (how : How) (s : List ℕ) where
  -- the value of an id
  unfoldable pub write_item : Stand → (id i : ℕ) → Item
  write_item x id i = on_read (value how (nth kinds id) s i) bad (λ v j. goes j (Write v id) (standing x.phase id x.time))

  -- "each followed by a value; delta 0 ends it"
  unfoldable pub found_item : Stand → (id i : ℕ) → Item
  found_item x id i = cond (eqb id 0) (goes i StepEnd (standing (after_values x.phase) 0 x.time)) (write_item x id i)

  unfoldable pub value_item : Stand → ℕ → Item
  value_item x i = on_read (next_of kinds s x.phase x.id i) bad (λ id j. found_item x id j)

-- ---- any item

unfoldable pub next_item : (kinds : List ℕ) → How → List ℕ → Stand → ℕ → Item
next_item kinds how s x i = cond (in_values x.phase) (value_item kinds how s x i) (head_item how s x i)

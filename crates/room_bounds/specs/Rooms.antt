-- How much room is always enough for each call, from its tables and the length of its input. A host that lends so
-- much never sees 16.
-- Assumes nothing.
use Rattle.std.specs.Prelude.{ℕ, zero, suc, ◌+◌, ◌*◌, ◌/◌, Bool, false, cond, ◌||◌, List, [], ◌∷◌, get_or, leb, eqb}
use Rattle.states.specs.Kind.{bytes_required, state_of}
use Rattle.tables.specs.Lists.{Lists, vectors}
use Rattle.rules.specs.Gather.{width}
use Rattle.gather.specs.Run.{gathers}
pub mod Laws

-- some signal is a number, of kind 5
unfoldable pub has_number : List ℕ → Bool
has_number [] = false
has_number (kind ∷ kinds) = eqb kind 5 || has_number kinds

unfoldable pub larger : ℕ → ℕ → ℕ
larger a b = cond (leb a b) b a

-- the largest of m and the first n
unfoldable pub most : (ℕ → ℕ) → (n m : ℕ) → ℕ
most f zero m = m
most f (suc n) m = larger (f n) (most f n m)

unfoldable pub vector_bytes : Lists → ℕ → ℕ
vector_bytes t v = bytes_required (state_of (get_or t.states v 0)) (width (gathers t) v)

-- "the widest value's bytes": of a vector, of a number eight, of another signal one
unfoldable pub widest : Lists → ℕ
widest t = most (vector_bytes t) (vectors t) (cond (has_number t.kinds) 8 1)

-- ---- of an input of n bytes

-- section reading: 13 bytes of events for each byte
abbrev pub section_events : ℕ → ℕ
section_events n = 13 * n

abbrev pub section_values : Lists → ℕ → ℕ
section_values t n = n * widest t

-- change reading: 13 for every 6
abbrev pub change_events : ℕ → ℕ
change_events n = 13 * n / 6

abbrev pub change_values : Lists → ℕ → ℕ
change_values t n = n / 6 * widest t

-- the time rule: as much as it reads
abbrev pub rule_room : ℕ → ℕ
rule_room n = n

-- the bench: 428 more than its events have
abbrev pub bench_room : ℕ → ℕ
bench_room n = n + 428

-- sections written: a byte more for every 10, and 32
abbrev pub write_room : ℕ → ℕ
write_room n = n + n / 10 + 32

-- sections read back: 13 for each byte, 6 where no signal is a number
abbrev pub back_room : Lists → ℕ → ℕ
back_room t n = n * cond (has_number t.kinds) 13 6

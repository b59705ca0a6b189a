-- The tables as two arrays of slices, and the four lent buffers, by name.
-- Assumes nothing.
use Rattle.std.specs.Prelude.{ℕ, List, [], get_or}
use Rattle.std.specs.Borrow.{Bor, MutBor}
use denote.Triple.Both.{Both}
use Rattle.tables.specs.Lists.{Lists, lists}
use Rattle.gather.specs.Memory.{Mem, mem_of}

abbrev pub Slice : Type 0
Slice = Bor (List ℕ)

abbrev pub Slices : Type 0
Slices = Both Slice Slice

abbrev pub Buffer : Type 0
Buffer = MutBor (List ℕ)

abbrev pub Buffers : Type 0
Buffers = Both Buffer Buffer

-- the list that stands k-th
abbrev pub list_at : List Slice → ℕ → List ℕ
list_at t k = (get_or t k (record { ref_ptr = (0, 0); now = [] })).now

-- kinds and states; references, vector numbers, least ids, greatest ids, references of vectors
abbrev pub tables : (bytes numbers : List Slice) → Lists
tables b n = lists (list_at b 0) (list_at n 0) (list_at n 1) (list_at n 2) (list_at n 3) (list_at b 1) (list_at n 4)

abbrev pub lent : (room list events values : Buffer) → Mem
lent room list events values = mem_of room.now list.now events.now values.now

abbrev pub before : (room list events values : Buffers) → Mem
before room list events values = mem_of room.entry.now list.entry.now events.entry.now values.entry.now

abbrev pub after : (room list events values : Buffers) → Mem
after room list events values = mem_of room.exit.now list.exit.now events.exit.now values.exit.now

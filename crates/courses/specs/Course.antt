-- What a call with one output has to write, its room aside; and what a room makes of that.
-- Assumes nothing.
use Rattle.std.specs.Prelude.{ℕ, ◌+◌, ◌≤◌, ◌<◌, ◌≡◌, ◌⊎◌, cond, List, [], ◌++◌, length, leb}
use Rattle.number_writer.specs.Ended.{Ended, wrote, refused}

-- bytes, with the next unread byte behind what they are written for, and the rest;
-- or the end: all was read, with the steps; or a refusal
pub data Course : Type 0 where
  adds : (bytes : List ℕ) (next : ℕ) → Course → Course
  done : (read steps : ℕ) → Course
  fault : (n p : ℕ) → Course

unfoldable pub bytes_of : Course → List ℕ
bytes_of (adds bs next rest) = bs ++ bytes_of rest
bytes_of (done i n) = []
bytes_of (fault n p) = []

-- it is read to its end, at this place, with so many steps
unfoldable pub Ends : (i n : ℕ) → Course → Type 0
Ends i n (adds bs next rest) = Ends i n rest
Ends i n (done j m) = (i ≡ j) × (n ≡ m)
Ends i n (fault m p) = ⊥

-- it is refused, with this number at this place
unfoldable pub Faults : (n p : ℕ) → Course → Type 0
Faults n p (adds bs next rest) = Faults n p rest
Faults n p (done i m) = ⊥
Faults n p (fault m q) = (n ≡ m) × (p ≡ q)

-- where it is read to its end and with what it is refused, said without it
pub record Told (end : ℕ → Type 0) (bad : ℕ → ℕ → Type 0) (c : Course) : Type 0 where
  pub ends : (i n : ℕ) → Ends i n c → end i
  pub ended : (i : ℕ) → end i → (n : ℕ) × Ends i n c
  pub faults : (n p : ℕ) → Faults n p c → bad n p
  pub faulted : (n p : ℕ) → bad n p → Faults n p c

module _ (room : ℕ) where
  -- "16: next event doesn't fit ..: next unread byte": behind `n` bytes, the first bytes that go over the room
  unfoldable pub Overflows : (n : ℕ) → Course → (p : ℕ) → Type 0
  Overflows n (adds bs next rest) p =
      ((room < n + length bs) × (p ≡ next)) ⊎ ((n + length bs ≤ room) × Overflows (n + length bs) rest p)
  Overflows n (done i m) p = ⊥
  Overflows n (fault m q) p = ⊥

  -- why it is refused: by itself, where all before that fits; or with 16
  abbrev pub Refusal : Course → (n p : ℕ) → Type 0
  Refusal c n p = (Faults n p c × (length (bytes_of c) ≤ room)) ⊎ ((n ≡ 16) × Overflows 0 c p)

  -- behind what was written
  unfoldable pub fill : Course → List ℕ → Ended
  fill (adds bs next rest) out = cond (leb (length out + length bs) room) (fill rest (out ++ bs)) (refused 16 next)
  fill (done i n) out = wrote i out n
  fill (fault n p) out = refused n p

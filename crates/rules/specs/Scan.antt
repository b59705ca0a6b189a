-- What a reading finds in its input, one behind the other: acts for the gatherer, and how it ended.
-- Assumes nothing.
use Rattle.std.specs.Prelude.{ℕ, ◌≡◌, List, [], ◌∷◌}
use Rattle.rules.specs.Gather.{Act}
pub mod Ordered

-- an act, the place of the next unread byte after it, and the rest; or the end: all was read up to a place, or a refusal
pub data Scan : Type 0 where
  say : Act → ℕ → Scan → Scan
  done : ℕ → Scan
  fault : ℕ → ℕ → Scan

unfoldable pub acts : Scan → List Act
acts (say a p r) = a ∷ acts r
acts (done i) = []
acts (fault n p) = []

-- what follows where a part of the input was read
unfoldable pub and_then : Scan → (ℕ → Scan) → Scan
and_then (say a p r) k = say a p (and_then r k)
and_then (done i) k = k i
and_then (fault n p) k = fault n p

-- a scan that was read to its end, at this place
unfoldable pub Ends : ℕ → Scan → Type 0
Ends i (say a p sc) = Ends i sc
Ends i (done j) = i ≡ j
Ends i (fault n p) = ⊥

-- a scan that was refused, with this number at this place
unfoldable pub Faults : ℕ → ℕ → Scan → Type 0
Faults n p (say a q sc) = Faults n p sc
Faults n p (done i) = ⊥
Faults n p (fault m q) = (n ≡ m) × (p ≡ q)

-- a scan that says an act behind some others, with this next unread byte after it
unfoldable pub Says : Scan → List Act → Act → ℕ → Type 0
Says (say a p sc) [] b q = (a ≡ b) × (p ≡ q)
Says (say a p sc) (c ∷ cs) b q = (a ≡ c) × Says sc cs b q
Says (done i) cs b q = ⊥
Says (fault n p) cs b q = ⊥

-- One vector by itself: what it is told, the rules (a), (b), (c) and the step's end, and what happens to it.
-- A list of bit values, or of marks, has bit 0 first.
-- Assumes nothing.
use Rattle.std.specs.Prelude.{ℕ, ◌%◌, Bool, true, false, not, ◌&&◌, ◌||◌, List, [], ◌∷◌, ◌++◌, length, get_or, set, replicate, eqb, leb}
pub mod Laws
pub mod Apart

-- a write of one bit: its value is mapped already, and `pos` is its place in the input
pub record Write : Type 0 where
  pub bit : ℕ
  pub value : ℕ
  pub pos : ℕ

-- what a vector is told
pub data Op : Type 0 where
  start : ℕ → Op
  put : Write → Op
  stop : Op

-- why an event was made: rule (a), rule (c), the step's end
pub data Cause : Type 0 where
  rewritten complete ended : Cause

-- what happens to a vector, in order: a step began, a bit was written, an event was made, the step is over
pub data Item : Type 0 where
  began : ℕ → Item
  wrote : Write → Item
  shown : Cause → List ℕ → Item
  over : Item

-- the stored value of each bit, and whether it was written since the vector's last event
pub record Vec : Type 0 where
  pub vals : List ℕ
  pub marks : List Bool

unfoldable pub all : List Bool → Bool
all [] = true
all (m ∷ ms) = m && all ms

unfoldable pub any : List Bool → Bool
any [] = false
any (m ∷ ms) = m || any ms

-- "Stored values start at zero."
unfoldable pub fresh : ℕ → Vec
fresh w = record { vals = replicate w 0; marks = replicate w false }

unfoldable pub cleared : Vec → Vec
cleared v = record { vals = v.vals; marks = replicate (length v.marks) false }

-- where a rule acts it makes "an event of the stored vector" and clears its marks
unfoldable pub fires : Bool → Cause → Vec → List Item × Vec
fires true c v = (shown c v.vals ∷ [], cleared v)
fires false c v = ([], v)

-- (a) "that bit was written since the vector's last event and the new value differs"
unfoldable pub clashes : Vec → Write → Bool
clashes v x = get_or v.marks x.bit false && not (eqb x.value (get_or v.vals x.bit 0))

-- (b) "store and mark"
unfoldable pub stored : Vec → Write → Vec
stored v x = record { vals = set v.vals x.bit x.value; marks = set v.marks x.bit true }

-- (c) "the width is at most 7 or a multiple of 8"; a mode of the gatherer is such a test
unfoldable pub acts_early : ℕ → Bool
acts_early w = leb w 7 || eqb (w % 8) 0

-- one operation: what happens, and the vector after it
unfoldable pub act : Bool → Vec → Op → List Item × Vec
act early v (start t) = (began t ∷ [], v)
act early v (put x) =
    let a = fires (clashes v x) rewritten v in
    let b = stored a.1 x in
    let c = fires (early && all b.marks) complete b in
    (a.0 ++ wrote x ∷ c.0, c.1)
act early v stop =
    let e = fires (any v.marks) ended v in
    (e.0 ++ over ∷ [], e.1)

unfoldable pub history : Bool → Vec → List Op → List Item
history early v [] = []
history early v (op ∷ ops) = (act early v op).0 ++ history early (act early v op).1 ops

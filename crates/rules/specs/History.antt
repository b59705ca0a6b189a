-- Places in one vector's history: what stands before an item of it, and what stands behind.
-- Assumes nothing.
use Rattle.std.specs.Prelude.{ℕ, ◌≡◌, Bool, true, false, List, [], ◌∷◌, eqb}
use Rattle.rules.specs.Vector.{Write, Op, start, put, stop, Item, began, wrote, shown, over}
pub mod Laws

unfoldable pub is_event : Item → Bool
is_event (began t) = false
is_event (wrote x) = false
is_event (shown c l) = true
is_event over = false

-- an event, or the step's end
unfoldable pub is_closing : Item → Bool
is_closing (began t) = false
is_closing (wrote x) = false
is_closing (shown c l) = true
is_closing over = true

unfoldable pub writes_bit : ℕ → Item → Bool
writes_bit k (began t) = false
writes_bit k (wrote x) = eqb k x.bit
writes_bit k (shown c l) = false
writes_bit k over = false

-- no item passes the test
unfoldable pub Without : (Item → Bool) → List Item → Type 0
Without p [] = Unit {0}
Without p (i ∷ h) = (p i ≡ false) × Without p h

-- the writes since the last event, latest first, from `ws` on
unfoldable pub since : List Write → List Item → List Write
since ws [] = ws
since ws (began t ∷ h) = since ws h
since ws (wrote x ∷ h) = since (x ∷ ws) h
since ws (shown c l ∷ h) = since [] h
since ws (over ∷ h) = since ws h

-- what the last event showed, from `before` on
unfoldable pub last_shown : List ℕ → List Item → List ℕ
last_shown before [] = before
last_shown before (began t ∷ h) = last_shown before h
last_shown before (wrote x ∷ h) = last_shown before h
last_shown before (shown c l ∷ h) = last_shown l h
last_shown before (over ∷ h) = last_shown before h

-- all writes, latest first, from `ws` on
unfoldable pub writes : List Write → List Item → List Write
writes ws [] = ws
writes ws (began t ∷ h) = writes ws h
writes ws (wrote x ∷ h) = writes (x ∷ ws) h
writes ws (shown c l ∷ h) = writes ws h
writes ws (over ∷ h) = writes ws h

-- a history without its events
unfoldable pub heard : List Item → List Op
heard [] = []
heard (began t ∷ h) = start t ∷ heard h
heard (wrote x ∷ h) = put x ∷ heard h
heard (shown c l ∷ h) = heard h
heard (over ∷ h) = stop ∷ heard h

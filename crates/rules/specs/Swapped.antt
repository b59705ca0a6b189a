-- Inputs that differ in the order of writes to different vectors within steps, and what each vector shows: its own times and values.
-- Assumes nothing.
use Rattle.std.specs.Prelude.{List, [], ◌∷◌, ◌≢◌, ℕ}
use Rattle.rules.specs.Vector.{Item, began, wrote, shown, over}
use Rattle.rules.specs.Gather.{Tables, Act, time, write, step_end}

-- the times and values of a vector, in order
unfoldable pub sights : List Item → List Item
sights [] = []
sights (began t ∷ h) = began t ∷ sights h
sights (wrote x ∷ h) = sights h
sights (shown c v ∷ h) = shown c v ∷ sights h
sights (over ∷ h) = sights h

-- two inputs that differ in places, and in the order of writes to different vectors within steps
pub data Swapped (t : Tables) : List Act → List Act → Type 0 where
  both_nil : Swapped t [] []
  both_time : {u : ℕ} {a b : List Act} → Swapped t a b → Swapped t (time u ∷ a) (time u ∷ b)
  both_write : {i x p q : ℕ} {a b : List Act} → Swapped t a b → Swapped t (write i x p ∷ a) (write i x q ∷ b)
  both_end : {a b : List Act} → Swapped t a b → Swapped t (step_end ∷ a) (step_end ∷ b)
  swap : {i x p j y q : ℕ} {a : List Act} → t.vector i ≢ t.vector j → Swapped t (write i x p ∷ write j y q ∷ a) (write j y q ∷ write i x p ∷ a)
  then : {a b c : List Act} → Swapped t a b → Swapped t b c → Swapped t a c

-- An act taken in parts, over the rules' machine alone: what happens in one part, and that the same act over the state after it is what is left.
-- Rule (c)'s test is a parameter.
-- Assumes nothing.
use Rattle.std.specs.Prelude.{ℕ, ◌≡◌, Bool, cond, List, ◌++◌}
use Rattle.rules.specs.Gather.{Tables, Act, Happening, State, does}
use Rattle.vecbuffer.specs.Stands.{clearing}
pub mod Laws

-- the act over g is these happenings, and then the same act over g'
pub record Leaves (early : ℕ → Bool) (t : Tables) (a : Act) (g : State) (hs : List Happening) (g' : State) : Type 0 where
  pub happen : (does early t g a).0 ≡ hs ++ (does early t g' a).0
  pub state : (does early t g a).1 ≡ (does early t g' a).1

-- the act over g is these happenings, and leaves g'
pub record Closes (early : ℕ → Bool) (t : Tables) (a : Act) (g : State) (hs : List Happening) (g' : State) : Type 0 where
  pub happen : (does early t g a).0 ≡ hs
  pub state : (does early t g a).1 ≡ g'

-- a rule that may act on vector v
unfoldable pub firing : Bool → ℕ → State → State
firing b v g = cond b (clearing g v) g

-- the state as the first vector listed is listed no more
unfoldable pub without : List ℕ → State → State
without us g = record { vecs = g.vecs; listed = us }

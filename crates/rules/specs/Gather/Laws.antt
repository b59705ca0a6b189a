-- No number twice in a list, what holds of every state that the gatherer reaches, and the state after some acts.
-- Assumes nothing.
use Rattle.std.specs.Prelude.{◌≡◌, Bool, true, false, List, [], ◌∷◌, ℕ}
use Rattle.rules.specs.Vector.{any}
use Rattle.rules.specs.Vector.Laws.{Wide}
use Rattle.rules.specs.Gather.{Tables, width, Act, of, State, elem, does}

-- no number twice
unfoldable pub Distinct : List ℕ → Type 0
Distinct [] = Unit {0}
Distinct (v ∷ vs) = (elem v vs ≡ false) × Distinct vs

-- ---- what holds of every state that the gatherer reaches

pub record Sound (t : Tables) (s : State) : Type 0 where
  pub distinct : Distinct s.listed
  pub covers : (v : ℕ) → any (s.vecs v).marks ≡ true → elem v s.listed ≡ true
  pub wide : (v : ℕ) → Wide (width t v) (s.vecs v)

-- the state after some acts
unfoldable pub state_after : (ℕ → Bool) → Tables → State → List Act → State
state_after early t s [] = s
state_after early t s (a ∷ acts) = state_after early t (does early t s a).1 acts

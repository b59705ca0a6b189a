-- The end of each of the steps of whole steps: which vectors make an event there, in what order.
-- Assumes nothing.
use Rattle.std.specs.Prelude.{◌≡◌, ◌↔◌, Bool, true, List, [], ◌∷◌, ◌++◌, ℕ}
use Rattle.std.proofs.Math.Path.{refl}
use Rattle.std.proofs.Math.Bool.{false}
use Rattle.rules.specs.Vector.{Write}
use Rattle.rules.specs.Gather.{Tables, Good, Act, time, step_end, ends, begin, elem, happens}
use Rattle.rules.specs.Gather.Laws.{Distinct, state_after}
use Rattle.rules.proofs.Gather.Laws.{sound_begin}
use Rattle.rules.specs.Gather.Firsts.{firsts}
use Rattle.rules.specs.Gather.Order.{marked, end_events, written, before_end}
use Rattle.rules.proofs.Gather.Order.{step_happens, step_marked, step_once}
use Rattle.rules.specs.History.Laws.{Waits}
use Rattle.rules.specs.Steps.{Stepped, Writes}
use Rattle.rules.proofs.Steps.Laws.{steps_before, end_of_step, stepped_listed}
use Rattle.rules.specs.Steps.Owned.{history_of}
use Rattle.rules.proofs.Steps.Owned.{marks_wait}
use Rattle.rules.specs.Steps.Ends.{StepOf}

module _ (early : ℕ → Bool) (t : Tables) (acts : List Act) (steps : Stepped acts) where
  -- every step's end is the end of such a step
  pub every_end : (a rest : List Act) → acts ≡ a ++ step_end ∷ rest → (earlier : List Act) × (u : ℕ) × (ws : List Act) × (a ≡ earlier ++ time u ∷ ws) × Writes ws
  every_end a rest e = let (earlier, u, ws, p, s, w, r) = end_of_step a rest (rw e at steps) in (earlier, u, ws, p, w)

  module _ (earlier : List Act) (u : ℕ) (ws rest : List Act) (step : StepOf acts earlier u ws rest) where
    between : (state_after early t (begin t) earlier).listed ≡ []
    unfolding begin
    between = stepped_listed early t (begin t) earlier (steps_before false earlier u (ws ++ step_end ∷ rest) (rw step.0 at steps)) refl

    -- the events at its end: of its vectors with marks, each labelled, in the order of their first writes
    pub at_end : happens early t (begin t) acts
        ≡ happens early t (begin t) (earlier ++ time u ∷ ws)
        ++ (end_events (before_end early t (begin t) earlier u ws).vecs (firsts (written t ws)) ++ ends ∷ happens early t (state_after early t (before_end early t (begin t) earlier u ws) (step_end ∷ [])) rest)
    at_end = rw step.0 (step_happens early t (begin t) (sound_begin t) earlier between u ws step.1 rest)

    -- those are the vectors with a write that no event owns yet
    pub who_ends : Good t → (v : ℕ) → (elem v (marked (before_end early t (begin t) earlier u ws).vecs (firsts (written t ws))) ≡ true) ↔ ((x : Write) × Waits x (history_of early t (earlier ++ time u ∷ ws) v))
    who_ends good v = rw (step_marked early t (begin t) (sound_begin t) earlier between u ws step.1 v) (marks_wait early t good v (earlier ++ time u ∷ ws))

    -- .. each once
    pub ends_once : Distinct (marked (before_end early t (begin t) earlier u ws).vecs (firsts (written t ws)))
    ends_once = step_once early t (begin t) (sound_begin t) earlier between u ws step.1

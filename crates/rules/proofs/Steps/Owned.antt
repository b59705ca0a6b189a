-- Whole steps: each vector's history meets demand 3, and a vector has marks exactly where a write waits for its event.
-- Assumes nothing.
use Rattle.std.specs.Prelude.{◌≡◌, ◌↔◌, Bool, true, List, [], ◌∷◌, ◌++◌, ℕ, replicate}
use Rattle.std.proofs.Common.{⊎_elim}
use Rattle.rules.specs.Vector.{Write, any, history}
use Rattle.rules.proofs.Vector.Laws.{mark_any}
use Rattle.rules.specs.Gather.{Tables, width, Good, Act, step_end, begin}
use Rattle.rules.specs.Gather.Laws.{state_after}
use Rattle.rules.proofs.Gather.Own.{told_nil, told_end, own_history, own_after, told_inside, nothing_lost_of}
use Rattle.rules.specs.History.{since, last_shown, heard}
use Rattle.rules.specs.History.Laws.{Waits}
use Rattle.rules.proofs.History.Laws.{since_waits, since_some}
use Rattle.rules.specs.Owned.{Owned, Inside}
use Rattle.rules.proofs.Owned.Laws.{owned, owned_nothing}
use Rattle.rules.specs.Owned.Tracks.{Tracks}
use Rattle.rules.proofs.Owned.Tracks.{tracks_after, some_waits, waits_marked}
use Rattle.rules.specs.Steps.{Stepped}
use Rattle.rules.specs.Steps.Laws.{EndsStep}
use Rattle.rules.proofs.Steps.Laws.{stepped_end}
use Rattle.rules.specs.Steps.Owned.{history_of}

module _ (early : ℕ → Bool) (t : Tables) (good : Good t) (v : ℕ) where
  -- demand 3 of acts that end with a step's end, whatever stands before it
  owned_ended : (acts : List Act) → Owned (early (width t v)) (width t v) (replicate (width t v) 0) [] (history_of early t (acts ++ step_end ∷ []) v)
  owned_ended acts = rw (own_history, told_end) (owned _ _ _ (told_inside t good v acts))

  owned_empty : Owned (early (width t v)) (width t v) (replicate (width t v) 0) [] (history_of early t [] v)
  unfolding history
  owned_empty = rw (own_history, told_nil) (owned_nothing _ _)

  -- .. so of whole steps, and of none
  pub owned_steps : (acts : List Act) → Stepped acts → Owned (early (width t v)) (width t v) (replicate (width t v) 0) [] (history_of early t acts v)
  owned_steps acts s = ⊎_elim (λ (e : acts ≡ []). rw e owned_empty) (λ (r : EndsStep acts). rw r.1 (owned_ended r.0)) (stepped_end acts s)

  -- every write of it names a bit of the vector
  pub inside_history : (acts : List Act) → Inside (width t v) (heard (history_of early t acts v))
  inside_history acts = rw nothing_lost_of (told_inside t good v acts)

  tracks_history : (acts : List Act) → Tracks (width t v) (last_shown (replicate (width t v) 0) (history_of early t acts v)) (since [] (history_of early t acts v)) ((state_after early t (begin t) acts).vecs v)
  tracks_history acts = rw (own_after, own_history) (tracks_after (early (width t v)) (width t v) _ (told_inside t good v acts))

  -- a vector has marks exactly where a write of it waits for its event
  pub marks_wait : (acts : List Act) → (any ((state_after early t (begin t) acts).vecs v).marks ≡ true) ↔ ((x : Write) × Waits x (history_of early t acts v))
  marks_wait acts = (
    λ m. since_some (history_of early t acts v) (some_waits _ _ _ _ (tracks_history acts) m),
    λ (x, waits). mark_any _ _ (waits_marked _ _ _ _ (tracks_history acts) x ((since_waits x (history_of early t acts v)).1 waits)),
  )

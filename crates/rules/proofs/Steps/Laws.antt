-- Laws of steps.
-- Assumes nothing.
use Rattle.std.specs.Prelude.{ℕ, ◌≡◌, refl, ◌⊎◌, Bool, true, false, List, [], ◌∷◌, ◌++◌}
use Rattle.std.proofs.Common.{ap, inl, inr, ⊎_elim, true≢false}
use Rattle.rules.specs.Gather.{Tables, Act, time, write, step_end, State, does}
use Rattle.rules.specs.Gather.Laws.{state_after}
use Rattle.rules.specs.Steps.{Steps, Stepped, Writes}
use Rattle.rules.specs.Steps.Laws.{EndOfStep, EndsStep, StepFirst}

-- whole steps behind others
pub steps_append : (open? : Bool) (a b : List Act) → Steps open? a → Stepped b → Steps open? (a ++ b)
unfolding Steps
steps_append false [] b s r = r
steps_append false (time u ∷ a) b s r = steps_append true a b s r
steps_append false (write i x p ∷ a) b s r = absurd s
steps_append false (step_end ∷ a) b s r = absurd s
steps_append true [] b s r = absurd s
steps_append true (time u ∷ a) b s r = absurd s
steps_append true (write i x p ∷ a) b s r = steps_append true a b s r
steps_append true (step_end ∷ a) b s r = steps_append false a b s r

in_step : (ws rest : List Act) → Writes ws → Stepped rest → Steps true (ws ++ step_end ∷ rest)
unfolding Steps Writes
in_step [] rest w r = r
in_step (time u ∷ ws) rest w r = absurd w
in_step (write i x p ∷ ws) rest w r = in_step ws rest w r
in_step (step_end ∷ ws) rest w r = absurd w

-- a step in front of whole steps
pub step_cons : (u : ℕ) (ws rest : List Act) → Writes ws → Stepped rest → Stepped (time u ∷ (ws ++ step_end ∷ rest))
unfolding Steps
step_cons u ws rest w r = in_step ws rest w r

to_its_end : (acts : List Act) → Steps true acts → (ws : List Act) × (rest : List Act) × (acts ≡ ws ++ step_end ∷ rest) × Writes ws × Stepped rest
unfolding Steps Writes
to_its_end [] s = absurd s
to_its_end (time u ∷ acts) s = absurd s
to_its_end (write i x p ∷ acts) s = let (ws, rest, e, w, r) = to_its_end acts s in (write i x p ∷ ws, rest, ap (λ l. write i x p ∷ l) e, w, r)
to_its_end (step_end ∷ acts) s = ([], acts, refl, tt, s)

pub step_first : (acts : List Act) → Stepped acts → (acts ≡ []) ⊎ StepFirst acts
unfolding Steps
step_first [] s = inl refl
step_first (time u ∷ acts) s = let (ws, rest, e, w, r) = to_its_end acts s in inr (u, ws, rest, ap (λ l. time u ∷ l) e, w, r)
step_first (write i x p ∷ acts) s = absurd s
step_first (step_end ∷ acts) s = absurd s

ends_cons : (x : Act) (acts : List Act) → EndsStep acts → EndsStep (x ∷ acts)
ends_cons x acts (a, e) = (x ∷ a, ap (λ l. x ∷ l) e)

abbrev Closed : Bool → List Act → Type 0
Closed false acts = (acts ≡ []) ⊎ EndsStep acts
Closed true acts = EndsStep acts

steps_end : (open? : Bool) (acts : List Act) → Steps open? acts → Closed open? acts
unfolding Steps
steps_end false [] s = inl refl
steps_end false (time u ∷ acts) s = inr (ends_cons (time u) acts (steps_end true acts s))
steps_end false (write i x p ∷ acts) s = absurd s
steps_end false (step_end ∷ acts) s = absurd s
steps_end true [] s = absurd s
steps_end true (time u ∷ acts) s = absurd s
steps_end true (write i x p ∷ acts) s = ends_cons (write i x p) acts (steps_end true acts s)
steps_end true (step_end ∷ acts) s = ⊎_elim (λ (e : acts ≡ []). ([], ap (λ l. step_end ∷ l) e)) (λ (r : EndsStep acts). ends_cons step_end acts r) (steps_end false acts s)

pub stepped_end : (acts : List Act) → Stepped acts → (acts ≡ []) ⊎ EndsStep acts
stepped_end acts s = steps_end false acts s

-- what stands before a time, or behind a step's end, is whole steps too
pub steps_before : (open? : Bool) (a : List Act) (u : ℕ) (b : List Act) → Steps open? (a ++ time u ∷ b) → Steps open? a
unfolding Steps
steps_before false [] u b s = tt
steps_before false (time u' ∷ a) u b s = steps_before true a u b s
steps_before false (write i x p ∷ a) u b s = absurd s
steps_before false (step_end ∷ a) u b s = absurd s
steps_before true [] u b s = absurd s
steps_before true (time u' ∷ a) u b s = absurd s
steps_before true (write i x p ∷ a) u b s = steps_before true a u b s
steps_before true (step_end ∷ a) u b s = steps_before false a u b s

abbrev Ending : Bool → List Act → List Act → Type 0
Ending false a b = EndOfStep false a b
Ending true a b = (Writes a × Stepped b) ⊎ EndOfStep true a b

ending : (open? : Bool) (a b : List Act) → Steps open? (a ++ step_end ∷ b) → Ending open? a b
unfolding Steps Writes
ending false [] b s = absurd s
ending false (time u ∷ a) b s =
    ⊎_elim (λ (r : Writes a × Stepped b). ([], u, a, refl, tt, r.0, r.1)) (λ (r : EndOfStep true a b). (time u ∷ r.0, r.1, r.2, ap (λ l. time u ∷ l) r.3, r.4, r.5, r.6)) (ending true a b s)
ending false (write i x p ∷ a) b s = absurd s
ending false (step_end ∷ a) b s = absurd s
ending true [] b s = inl (tt, s)
ending true (time u ∷ a) b s = absurd s
ending true (write i x p ∷ a) b s =
    ⊎_elim (λ (r : Writes a × Stepped b). inl r) (λ (r : EndOfStep true a b). inr (write i x p ∷ r.0, r.1, r.2, ap (λ l. write i x p ∷ l) r.3, r.4, r.5, r.6)) (ending true a b s)
ending true (step_end ∷ a) b s = let r = ending false a b s in inr (step_end ∷ r.0, r.1, r.2, ap (λ l. step_end ∷ l) r.3, r.4, r.5, r.6)

pub end_of_step : (a b : List Act) → Stepped (a ++ step_end ∷ b) → EndOfStep false a b
end_of_step a b s = ending false a b s

-- between steps no vector is listed
steps_listed : (early : ℕ → Bool) (t : Tables) (open? : Bool) (s : State) (acts : List Act) → Steps open? acts → (open? ≡ false → s.listed ≡ []) → (state_after early t s acts).listed ≡ []
unfolding Steps state_after does
steps_listed early t false s [] i e = e refl
steps_listed early t false s (time u ∷ acts) i e = steps_listed early t true s acts i (λ h. absurd (true≢false h))
steps_listed early t false s (write n x p ∷ acts) i e = absurd i
steps_listed early t false s (step_end ∷ acts) i e = absurd i
steps_listed early t true s [] i e = absurd i
steps_listed early t true s (time u ∷ acts) i e = absurd i
steps_listed early t true s (write n x p ∷ acts) i e = steps_listed early t true _ acts i (λ h. absurd (true≢false h))
steps_listed early t true s (step_end ∷ acts) i e = steps_listed early t false _ acts i (λ h. refl)

pub stepped_listed : (early : ℕ → Bool) (t : Tables) (s : State) (acts : List Act) → Stepped acts → s.listed ≡ [] → (state_after early t s acts).listed ≡ []
stepped_listed early t s acts i e = steps_listed early t false s acts i (λ h. e)

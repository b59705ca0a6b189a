-- The step's end: each vector with marks makes one event, in the order of the vectors' first writes in the step.
-- Assumes nothing.
use Rattle.std.specs.Prelude.{◌≡◌, refl, Bool, false, ◌&&◌, ℕ, zero, suc, eqb}
use Rattle.std.proofs.Common.{sym, ◌∙◌, eqb-true}
use Rattle.std.proofs.Math.Path.{ap}
use Rattle.std.proofs.Math.Bool.{and-false}
use mathlib.Core.List.{List, [], ◌∷◌, ◌++◌, map, append_assoc}
use Rattle.std.proofs.lemmas.Bool.{eqb-false}
use Rattle.rules.specs.Vector.{ended, Vec, any, fires}
use Rattle.rules.proofs.Vector.Laws.{by_test, never_both}
use Rattle.rules.specs.Gather.{Tables, Act, time, write, step_end, at, of, ends, State, with, elem, end_all, to_vector, toward, does, happens}
use Rattle.rules.specs.Gather.Laws.{Distinct, Sound, state_after}
use Rattle.rules.proofs.Gather.Laws.{with_other, elem_head, sound_after, covered, after_append, happens_append}
use Rattle.rules.specs.Gather.Firsts.{firsts, listing}
use Rattle.rules.proofs.Gather.Firsts.{listing_all}
use Rattle.rules.specs.Steps.{Writes}
use Rattle.slices.specs.Choice.{cond_ind}
use Rattle.rules.specs.Gather.Order.{before_end, end_event, end_events, labels, marked, named, written}

-- another vector makes no difference to them
marked_with : (vecs : ℕ → Vec) (v : ℕ) (x : Vec) (vs : List ℕ) → elem v vs ≡ false → end_events (with vecs v x) vs ≡ end_events vecs vs
unfolding marked end_event elem
marked_with vecs v x [] n = refl
marked_with vecs v x (u ∷ vs) n =
    by_test (eqb v u) (λ q. absurd (never_both (rw q) n))
    (λ q.
    let same : with vecs v x u ≡ vecs u = with_other vecs v x u (λ e. eqb-false v u q (sym e)) in
    let rest = marked_with vecs v x vs (rw q at n) in
    rw same (by_test (any (vecs u).marks) (λ h. rw h (rw same (ap (λ l. end_event vecs u ∷ l) rest))) (λ h. rw h rest)))

-- "each vector with marks makes one event": the listed vectors with marks, in the order of the list, each event with its vector's stored values
pub end_events_lem : (vs : List ℕ) (vecs : ℕ → Vec) → Distinct vs → (end_all vs vecs).0 ≡ end_events vecs vs
unfolding end_all marked Distinct fires end_event
end_events_lem [] vecs d = refl
end_events_lem (v ∷ vs) vecs d =
    let rest = end_events_lem vs (with vecs v (fires (any (vecs v).marks) ended (vecs v)).1) d.1 ∙ marked_with vecs v _ vs d.0 in
    rw rest (by_test (any (vecs v).marks) (λ h. rw h) (λ h. rw h))

-- they are exactly the listed vectors that have marks, each once
pub marked_elem : (vecs : ℕ → Vec) (vs : List ℕ) (v : ℕ) → elem v (marked vecs vs) ≡ (elem v vs && any (vecs v).marks)
unfolding marked elem
marked_elem vecs [] v = refl
marked_elem vecs (u ∷ vs) v =
    by_test (eqb v u)
    (λ q. rw (q, eqb-true v u q) (by_test (any (vecs u).marks) (λ h. rw h (elem_head u (marked vecs vs))) (λ h. rw h (marked_elem vecs vs u ∙ rw h (and-false (elem u vs))))))
    (λ q. rw q (by_test (any (vecs u).marks) (λ h. rw h (rw q (marked_elem vecs vs v))) (λ h. rw h (marked_elem vecs vs v))))

pub marked_distinct : (vecs : ℕ → Vec) (vs : List ℕ) → Distinct vs → Distinct (marked vecs vs)
unfolding marked Distinct
marked_distinct vecs [] d = tt
marked_distinct vecs (v ∷ vs) d =
    cond_ind (any (vecs v).marks) (v ∷ marked vecs vs) (marked vecs vs) Distinct
    (λ h. (marked_elem vecs vs v ∙ rw d.0, marked_distinct vecs vs d.1))
    (λ h. marked_distinct vecs vs d.1)

labels_events : (vecs : ℕ → Vec) (vs : List ℕ) → labels (map (end_event vecs) vs) ≡ vs
unfolding labels end_event
labels_events vecs [] = refl
labels_events vecs (v ∷ vs) = ap (λ l. v ∷ l) (labels_events vecs vs)

pub end_labels : (vs : List ℕ) (vecs : ℕ → Vec) → Distinct vs → labels (end_all vs vecs).0 ≡ marked vecs vs
end_labels vs vecs d = ap labels (end_events_lem vs vecs d) ∙ labels_events vecs (marked vecs vs)

listed_toward : (early : ℕ → Bool) (t : Tables) (s : State) (n i x p : ℕ) (vs : List ℕ) → listing (toward early t s n i x p).1.listed vs ≡ listing s.listed (named n vs)
unfolding toward to_vector named listing
listed_toward early t s zero i x p vs = refl
listed_toward early t s (suc v) i x p vs = refl

listed_from : (early : ℕ → Bool) (t : Tables) (s : State) (ws : List Act) → Writes ws → (state_after early t s ws).listed ≡ listing s.listed (written t ws)
unfolding state_after Writes written listing does
listed_from early t s [] w = refl
listed_from early t s (time u ∷ ws) w = absurd w
listed_from early t s (write i x p ∷ ws) w = listed_from early t (does early t s (write i x p)).1 ws w ∙ listed_toward early t s (t.vector i) i x p (written t ws)
listed_from early t s (step_end ∷ ws) w = absurd w

-- "in order of its first write in the step, early events notwithstanding"
pub listed_order : (early : ℕ → Bool) (t : Tables) (s : State) (ws : List Act) → Writes ws → s.listed ≡ [] → (state_after early t s ws).listed ≡ firsts (written t ws)
listed_order early t s ws w e = listed_from early t s ws w ∙ rw e (listing_all (written t ws))

module _ (early : ℕ → Bool) (t : Tables) (s : State) (o : Sound t s) (earlier : List Act) (e : (state_after early t s earlier).listed ≡ []) (u : ℕ) (ws : List Act) (w : Writes ws) where
  step_listed : (before_end early t s earlier u ws).listed ≡ firsts (written t ws)
  unfolding state_after does
  step_listed = rw (after_append early t s earlier (time u ∷ ws)) (listed_order early t (state_after early t s earlier) ws w e)

  step_sound : Sound t (before_end early t s earlier u ws)
  step_sound = sound_after early t s (earlier ++ time u ∷ ws) o

  -- what happens at the step's end: an event of each of the step's vectors with marks, in the order of their first writes
  pub step_end_lem : (does early t (before_end early t s earlier u ws) step_end).0 ≡ end_events (before_end early t s earlier u ws).vecs (firsts (written t ws)) ++ ends ∷ []
  unfolding does
  step_end_lem = rw (← step_listed) (ap (λ h. h ++ ends ∷ []) (end_events_lem _ _ step_sound.distinct))

  -- each vector with marks is among them, and none twice
  pub step_marked : (v : ℕ) → elem v (marked (before_end early t s earlier u ws).vecs (firsts (written t ws))) ≡ any ((before_end early t s earlier u ws).vecs v).marks
  step_marked v = rw (← step_listed) (marked_elem _ _ v ∙ covered t _ step_sound v)

  pub step_once : Distinct (marked (before_end early t s earlier u ws).vecs (firsts (written t ws)))
  step_once = rw (← step_listed) (marked_distinct _ _ step_sound.distinct)

  -- .. between what happened before the step's end and what comes behind it
  pub step_happens : (rest : List Act) → happens early t s (earlier ++ time u ∷ (ws ++ step_end ∷ rest))
      ≡ happens early t s (earlier ++ time u ∷ ws)
      ++ (end_events (before_end early t s earlier u ws).vecs (firsts (written t ws)) ++ ends ∷ happens early t (state_after early t (before_end early t s earlier u ws) (step_end ∷ [])) rest)
  unfolding happens state_after
  step_happens rest =
      let now = end_events (before_end early t s earlier u ws).vecs (firsts (written t ws)) in
      let later = happens early t (does early t (before_end early t s earlier u ws) step_end).1 rest in
      ap (happens early t s) (sym (append_assoc earlier (time u ∷ ws) (step_end ∷ rest)))
      ∙ happens_append early t s (earlier ++ time u ∷ ws) (step_end ∷ rest)
      ∙ ap (λ h. happens early t s (earlier ++ time u ∷ ws) ++ h) (ap (λ h. h ++ later) step_end_lem ∙ append_assoc now (ends ∷ []) later)

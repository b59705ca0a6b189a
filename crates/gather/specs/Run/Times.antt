-- "steps (time events made)": acts make as many time events as there are times among them.
-- Assumes nothing.
use Rattle.std.specs.Prelude.{ℕ, zero, suc, ◌+◌, ◌≡◌, leb, eqb}
use Rattle.std.proofs.Math.Path.{refl, ap}
use Rattle.std.proofs.Common.{sym, ◌∙◌}
use mathlib.Core.List.{List, [], ◌∷◌, ◌++◌, map}
use Rattle.std.proofs.Math.Nat.{zero-add}
use Rattle.slices.specs.Choice.{cond_ind}
use Rattle.tables.specs.Lists.{Lists}
use Rattle.rules.specs.Vector.{Item, began, wrote, shown, over, acts_early}
use Rattle.rules.specs.Gather.{Tables, Act, time, write, step_end, Happening, at, single, of, ends, State, happens}
use Rattle.rules.specs.Gather.Echo.{write_echo, echo, echoes}
use Rattle.rules.proofs.Gather.Echo.{nothing_lost}
use Rattle.records.specs.Event.{Event, event_steps}
use Rattle.gather.specs.Run.{gathers, alone, of_vector, events_of}
use Rattle.gather.specs.Run.Rendered.{steps_of}
use Rattle.gather.specs.Run.Events.{made}

unfoldable pub times_of : List Act → ℕ
times_of [] = 0
times_of (time u ∷ l) = 1 + times_of l
times_of (write i x p ∷ l) = times_of l
times_of (step_end ∷ l) = times_of l

-- the same of what happens
times_in : List Happening → ℕ
times_in [] = 0
times_in (at u ∷ h) = 1 + times_in h
times_in (single i x p ∷ h) = times_in h
times_in (of v i ∷ h) = times_in h
times_in (ends ∷ h) = times_in h

alone_steps : (kind reference v : ℕ) → event_steps (alone kind reference v) ≡ 0
unfolding alone event_steps
alone_steps kind reference v =
    cond_ind (leb kind 1) _ _ (λ e. event_steps e ≡ 0) (λ h. refl)
    (λ h. cond_ind (leb kind 4) _ _ (λ e. event_steps e ≡ 0) (λ h. refl) (λ h. cond_ind (eqb kind 5) _ _ (λ e. event_steps e ≡ 0) (λ h. refl) (λ h. refl)))

module _ (t : Lists) where
  vector_steps : (v : ℕ) (i : Item) (es : List Event) → steps_of (of_vector t v i ++ es) ≡ steps_of es
  unfolding of_vector steps_of event_steps
  vector_steps v (began u) es = refl
  vector_steps v (wrote x) es = refl
  vector_steps v (shown c l) es = zero-add (steps_of es)
  vector_steps v over es = refl

  happened : (h : List Happening) → steps_of (events_of t h) ≡ times_in h
  unfolding events_of steps_of event_steps times_in
  happened [] = refl
  happened (at u ∷ h) = ap (λ n. 1 + n) (happened h)
  happened (single i x p ∷ h) = rw alone_steps (zero-add _ ∙ happened h)
  happened (of v i ∷ h) = vector_steps v i (events_of t h) ∙ happened h
  happened (ends ∷ h) = happened h

unheard : (h : List Happening) → times_in (echoes h) ≡ times_in h
unfolding times_in echoes
unheard [] = refl
unheard (at u ∷ h) = ap (λ n. 1 + n) (unheard h)
unheard (single i x p ∷ h) = unheard h
unheard (of v (began u) ∷ h) = unheard h
unheard (of v (wrote x) ∷ h) = unheard h
unheard (of v (shown c l) ∷ h) = unheard h
unheard (of v over ∷ h) = unheard h
unheard (ends ∷ h) = unheard h

write_echo_lem : (t : Tables) (n i x p : ℕ) (h : List Happening) → times_in (write_echo t n i x p ∷ h) ≡ times_in h
unfolding times_in write_echo
write_echo_lem t zero i x p h = refl
write_echo_lem t (suc v) i x p h = refl

echoed : (t : Tables) (l : List Act) → times_in (map (echo t) l) ≡ times_of l
unfolding times_in echo times_of
echoed t [] = refl
echoed t (time u ∷ l) = ap (λ n. 1 + n) (echoed t l)
echoed t (write i x p ∷ l) = write_echo_lem t (t.vector i) i x p (map (echo t) l) ∙ echoed t l
echoed t (step_end ∷ l) = echoed t l

pub made_steps : (t : Lists) (g : State) (l : List Act) → steps_of (made t g l) ≡ times_of l
unfolding made
made_steps t g l =
    happened t (happens acts_early (gathers t) g l)
    ∙ sym (unheard (happens acts_early (gathers t) g l))
    ∙ ap times_in (nothing_lost acts_early (gathers t) g l)
    ∙ echoed (gathers t) l

-- Runs of scans: one that goes to its end leaves the events of the scanned acts, and one that is refused is so for a reason.
-- Assumes nothing.
use Rattle.std.specs.Prelude.{ℕ}
use Rattle.std.proofs.Math.Path.{◌≡◌, refl, ap}
use Rattle.std.proofs.Common.{sym, ◌∙◌, inl, arith}
use Rattle.std.proofs.Math.Logic.{inr}
use Rattle.std.proofs.Math.Option.{Option, none, some, none-ne-some, some-injective}
use mathlib.Core.List.{List, [], ◌∷◌, ◌++◌, append_assoc}
use Rattle.tables.specs.Lists.{Lists, nth}
use Rattle.rules.specs.Gather.{Act, Happening, at, single, of, ends, State, happens}
use Rattle.rules.specs.Gather.Laws.{state_after}
use Rattle.records.specs.Event.{time}
use Rattle.event_rooms.specs.Out.{Rooms, Out, append_all}
use Rattle.rules.specs.Scan.{Scan, say, done, fault, acts, Ends, Faults, Says}
use Rattle.gather.specs.Run.{alone, of_vector, events_of, went, out, fitted, acted, after, run}
use Rattle.gather.specs.Run.Rendered.{Rendered, Within}
use Rattle.gather.specs.Run.Rendered.Laws.{append_none, append_both, all_rendered, first_misfit}
use Rattle.gather.specs.Run.Events.{made, later, Ran, Refusal}

module _ (t : Lists) where
  events_append : (a b : List Happening) → events_of t (a ++ b) ≡ events_of t a ++ events_of t b
  unfolding events_of
  events_append [] b = refl
  events_append (at u ∷ a) b = ap (λ l. time u ∷ l) (events_append a b)
  events_append (single i x p ∷ a) b = ap (λ l. alone (nth t.kinds i) (nth t.refs i) x ∷ l) (events_append a b)
  events_append (of v i ∷ a) b = rw (events_append a b) (sym (append_assoc (of_vector t v i) _ _))
  events_append (ends ∷ a) b = events_append a b

  module _ (r : Rooms) where
    -- the first act goes before the others
    made_cons : (g : State) (a : Act) (l : List Act) (o : Out) → append_all r (made t g (a ∷ l)) (some o) ≡ append_all r (made t (after t r g a) l) (acted t r g o a)
    unfolding made happens after acted
    made_cons g a l o = rw events_append (append_both r _ _ (some o))

    -- a run that goes to its end leaves the events of the scanned acts
    pub ran : (sc : Scan) (g : State) (o : Out) (i : ℕ) (g' : State) (o' : Out) → run t r sc g o ≡ went i g' o' → Ran t r sc g o i g' o'
    unfolding run fitted acts Ends made happens events_of append_all state_after after
    ran (say a p sc) g o i g' o' h = go (acted t r g o a) refl h (λ o₁. ran sc (after t r g a) o₁ i g' o')
      where
        go : (x : Option Out) → acted t r g o a ≡ x → fitted p x out (λ o₁. run t r sc (after t r g a) o₁) ≡ went i g' o'
            → ((o₁ : Out) → run t r sc (after t r g a) o₁ ≡ went i g' o' → Ran t r sc (after t r g a) o₁ i g' o') → Ran t r (say a p sc) g o i g' o'
        go none e f rec = let z : ◌≡◌ {A = ℕ} 0 1 = cc in absurd (omega arith)
        go (some o₁) e f rec =
            let m = rec o₁ f in
            record { ended = m.ended; events = made_cons g a (acts sc) o ∙ rw e m.events; state = m.state }
    ran (done j) g o i g' o' h = record { ended = (cc); events = (cc); state = (cc) }
    ran (fault n p) g o i g' o' h = let z : ◌≡◌ {A = ℕ} 0 1 = cc in absurd (omega arith)

    -- .. rendered behind what was there, within the rooms
    pub ran_rendered : (sc : Scan) (g : State) (o : Out) (i : ℕ) (g' : State) (o' : Out) → run t r sc g o ≡ went i g' o' → Rendered o (made t g (acts sc)) o' × (Within r o → Within r o')
    ran_rendered sc g o i g' o' h = all_rendered r (made t g (acts sc)) o o' (ran sc g o i g' o' h).events

    -- .. and every run goes there where the scan does and all events fit
    pub runs : (sc : Scan) (g : State) (o : Out) (i : ℕ) (o' : Out) → Ends i sc → append_all r (made t g (acts sc)) (some o) ≡ some o' → run t r sc g o ≡ went i (later t g (acts sc)) o'
    unfolding run fitted acts Ends made happens events_of append_all state_after after
    runs (say a p sc) g o i o' d h = go (acted t r g o a) (sym (made_cons g a (acts sc) o) ∙ h) (λ o₁. runs sc (after t r g a) o₁ i o' d)
      where
        go : (x : Option Out) → append_all r (made t (after t r g a) (acts sc)) x ≡ some o'
            → ((o₁ : Out) → append_all r (made t (after t r g a) (acts sc)) (some o₁) ≡ some o' → run t r sc (after t r g a) o₁ ≡ went i (later t (after t r g a) (acts sc)) o')
            → fitted p x out (λ o₁. run t r sc (after t r g a) o₁) ≡ went i (later t (after t r g a) (acts sc)) o'
        go none f rec = absurd (none-ne-some o' (sym (append_none r (made t (after t r g a) (acts sc))) ∙ f))
        go (some o₁) f rec = rec o₁ f
    runs (done j) g o i o' d h = rw (d, some-injective o o' h)
    runs (fault n p) g o i o' d h = absurd d

    -- a run that is refused is so because the scan is, or with 16 because an event does not fit
    pub refused : (sc : Scan) (g : State) (o : Out) (n p : ℕ) → run t r sc g o ≡ out n p → Refusal t r sc g o n p
    unfolding run fitted acts Faults Says made happens events_of append_all state_after after
    refused (say a q sc) g o n p h = go (acted t r g o a) refl h (λ o₁. refused sc (after t r g a) o₁ n p)
      where
        here : acted t r g o a ≡ none → out 16 q ≡ out n p → Refusal t r (say a q sc) g o n p
        here e f = inr ((cc), record { before = []; act = a; said = (refl, (cc)); filled = o; fill = refl; full = first_misfit r (made t g (a ∷ [])) o (made_cons g a [] o ∙ e) })

        next : (o₁ : Out) → acted t r g o a ≡ some o₁ → Refusal t r sc (after t r g a) o₁ n p → Refusal t r (say a q sc) g o n p
        next o₁ e (inl (f, (o', m))) = inl (f, (o', made_cons g a (acts sc) o ∙ rw e m))
        next o₁ e (inr (k, m)) =
            inr (k, record { before = a ∷ m.before; act = m.act; said = (refl, m.said); filled = m.filled; fill = made_cons g a m.before o ∙ rw e m.fill; full = m.full })

        go : (x : Option Out) → acted t r g o a ≡ x → fitted q x out (λ o₁. run t r sc (after t r g a) o₁) ≡ out n p
            → ((o₁ : Out) → run t r sc (after t r g a) o₁ ≡ out n p → Refusal t r sc (after t r g a) o₁ n p) → Refusal t r (say a q sc) g o n p
        go none e f rec = here e f
        go (some o₁) e f rec = next o₁ e (rec o₁ f)
    refused (done j) g o n p h = let z : ◌≡◌ {A = ℕ} 0 1 = cc in absurd (omega arith)
    refused (fault m q) g o n p h = inl (((cc), (cc)), (o, refl))

-- The acts and the labelled records of what happens, in one order.
-- Assumes nothing.
use Prim.Native.Nat.{ℕ, zero, suc, ◌+◌, ◌-◌}
use Rattle.std.specs.Prelude.{◌≡◌, length, get_or}
use Rattle.std.proofs.Math.Path.{refl, ap}
use Rattle.std.proofs.Common.{sym, ◌∙◌, add-zero, arith, length-append}
use mathlib.Core.List.{List, [], ◌∷◌, ◌++◌, map, append_assoc, append-nil}
use Rattle.states.specs.Packed.{packed}
use Rattle.tables.specs.Lists.{Lists, nth}
use Rattle.rules.specs.Vector.{Item, began, wrote, shown, over}
use Rattle.rules.specs.Gather.{Good, Act, time, write, step_end, Happening, at, single, of, ends, bit_write}
use Rattle.rules.specs.Gather.Echo.{write_echo, echo, echoes}
use Rattle.records.specs.Event.{Event, value, record_of, record_bytes, event_value}
use Rattle.records.specs.Event as events
use Rattle.gather.specs.Run.{gathers, alone, of_vector, events_of}
use Rattle.gather.specs.Run.Rendered.{rendered, values_of}
use Rattle.demand3_bytes.specs.Statements.{joined, labels, label_of, labels_of, state_in, Moment, said, made, said_in, made_in}
use Rattle.demand3_bytes.specs.Trace.{labelled, labelled_from}
pub mod Cuts
pub mod Named
pub mod Nexts
pub mod Stretches

-- their bytes are what the rooms hold, and their labels those of the events
pub joined_rendered : (start : ℕ) (es : List Event) → joined (labelled_from start es) ≡ rendered start es
unfolding labelled_from labelled joined rendered
joined_rendered start [] = refl
joined_rendered start (e ∷ es) =
    ap (λ l. record_bytes (record_of start e) ++ l) (joined_rendered (start + length (event_value e)) es)

pub labels_labelled : (start : ℕ) (es : List Event) → labels (labelled_from start es) ≡ labels_of es
unfolding labelled_from labelled labels labels_of
labels_labelled start [] = refl
labels_labelled start (e ∷ es) = ap (λ l. label_of e ∷ l) (labels_labelled (start + length (event_value e)) es)

-- ---- moments

module _ (t : Lists) where
  -- vector v's event that shows l
  abbrev pub event_of : ℕ → List ℕ → Event
  event_of v l = value (suc v) (state_in t v) (get_or t.vec_refs v 0) (packed (state_in t v) l)

  abbrev pub alone_event : (i x : ℕ) → Event
  alone_event i x = alone (nth t.kinds i) (nth t.refs i) x

  unfoldable pub item_moments : ℕ → ℕ → Item → List Moment
  item_moments start v (began u) = said (time u) ∷ []
  item_moments start v (wrote x) = said (write ((gathers t).max v - x.bit) x.value x.pos) ∷ []
  item_moments start v (shown c l) = made (labelled start (event_of v l)) ∷ []
  item_moments start v over = said step_end ∷ []

  unfoldable pub moments : ℕ → Happening → List Moment
  moments start (at u) = said (time u) ∷ made (labelled start (events.time u)) ∷ []
  moments start (single i x p) = said (write i x p) ∷ made (labelled start (alone_event i x)) ∷ []
  moments start (of v i) = item_moments start v i
  moments start ends = said step_end ∷ []

  -- how many value bytes what happens makes
  abbrev pub size : List Happening → ℕ
  size h = length (values_of (events_of t h))

  unfoldable pub trace : ℕ → List Happening → List Moment
  trace start [] = []
  trace start (x ∷ h) = moments start x ++ trace (start + size (x ∷ [])) h

  -- ---- part by part

  pub events_append : (a b : List Happening) → events_of t (a ++ b) ≡ events_of t a ++ events_of t b
  unfolding events_of
  events_append [] b = refl
  events_append (at u ∷ a) b = ap (λ l. events.time u ∷ l) (events_append a b)
  events_append (single i x p ∷ a) b = ap (λ l. alone_event i x ∷ l) (events_append a b)
  events_append (of v i ∷ a) b = rw (events_append a b) (sym (append_assoc (of_vector t v i) _ _))
  events_append (ends ∷ a) b = events_append a b

  pub values_append : (a b : List Event) → values_of (a ++ b) ≡ values_of a ++ values_of b
  unfolding values_of
  values_append [] b = refl
  values_append (e ∷ a) b = rw (values_append a b) (sym (append_assoc (event_value e) _ _))

  pub size_nil : size [] ≡ 0
  unfolding events_of values_of
  size_nil = refl

  pub size_append : (a b : List Happening) → size (a ++ b) ≡ size a + size b
  size_append a b =
      rw (events_append, values_append) (length-append (values_of (events_of t a)) (values_of (events_of t b)))

  pub trace_append : (s : ℕ) (a b : List Happening) → trace s (a ++ b) ≡ trace s a ++ trace (s + size a) b
  unfolding trace
  trace_append s [] b = rw (size_nil, add-zero)
  trace_append s (x ∷ a) b =
      let e : s + size (x ∷ []) + size a ≡ s + size (x ∷ a) = omega (arith, size_append (x ∷ []) a) in
      rw (trace_append (s + size (x ∷ [])) a b, e) (sym (append_assoc (moments s x) _ _))

  -- ---- the records

  pub trace_made : (s : ℕ) (h : List Happening) → made_in (trace s h) ≡ labelled_from s (events_of t h)
  unfolding trace moments item_moments made_in events_of of_vector values_of labelled_from
  trace_made s [] = refl
  trace_made s (at u ∷ h) =
      ap (λ l. labelled s (events.time u) ∷ l) (rw (append-nil (event_value (events.time u))) (trace_made (s + length (event_value (events.time u))) h))
  trace_made s (single i x p ∷ h) =
      ap (λ l. labelled s (alone_event i x) ∷ l) (rw (append-nil (event_value (alone_event i x))) (trace_made (s + length (event_value (alone_event i x))) h))
  trace_made s (of v (began u) ∷ h) = rw (add-zero s) (trace_made s h)
  trace_made s (of v (wrote x) ∷ h) = rw (add-zero s) (trace_made s h)
  trace_made s (of v (shown c l) ∷ h) =
      ap (λ r. labelled s (event_of v l) ∷ r) (rw (append-nil (event_value (event_of v l))) (trace_made (s + length (event_value (event_of v l))) h))
  trace_made s (of v over ∷ h) = rw (add-zero s) (trace_made s h)
  trace_made s (ends ∷ h) = rw (add-zero s) (trace_made s h)

  -- ---- the acts

  -- they are those that echo in what happens
  said_echoes : (s r : ℕ) (h : List Happening) → said_in (trace s h) ≡ said_in (trace r (echoes h))
  unfolding trace moments item_moments said_in echoes
  said_echoes s r [] = refl
  said_echoes s r (at u ∷ h) = ap (λ l. time u ∷ l) (said_echoes (s + size (at u ∷ [])) (r + size (at u ∷ [])) h)
  said_echoes s r (single i x p ∷ h) = ap (λ l. write i x p ∷ l) (said_echoes (s + size (single i x p ∷ [])) (r + size (single i x p ∷ [])) h)
  said_echoes s r (of v (began u) ∷ h) = ap (λ l. time u ∷ l) (said_echoes (s + size (of v (began u) ∷ [])) (r + size (of v (began u) ∷ [])) h)
  said_echoes s r (of v (wrote x) ∷ h) =
      ap (λ l. write ((gathers t).max v - x.bit) x.value x.pos ∷ l) (said_echoes (s + size (of v (wrote x) ∷ [])) (r + size (of v (wrote x) ∷ [])) h)
  said_echoes s r (of v (shown c l) ∷ h) = said_echoes (s + size (of v (shown c l) ∷ [])) r h
  said_echoes s r (of v over ∷ h) = ap (λ l. step_end ∷ l) (said_echoes (s + size (of v over ∷ [])) (r + size (of v over ∷ [])) h)
  said_echoes s r (ends ∷ h) = ap (λ l. step_end ∷ l) (said_echoes (s + size (ends ∷ [])) (r + size (ends ∷ [])) h)

  module _ (good : Good (gathers t)) where
    said_write : (s n i x p : ℕ) (h : List Happening) → (gathers t).vector i ≡ n
        → said_in (trace s (write_echo (gathers t) n i x p ∷ h)) ≡ write i x p ∷ said_in
        (trace (s + size (write_echo (gathers t) n i x p ∷ [])) h)
    unfolding trace moments item_moments said_in write_echo bit_write Good
    said_write s zero i x p h e = refl
    said_write s (suc v) i x p h e =
        let b : (gathers t).max v - ((gathers t).max v - i) ≡ i = omega (arith, good i v e) in
        rw b

    said_acts : (s : ℕ) (acts : List Act) → said_in (trace s (map (echo (gathers t)) acts)) ≡ acts
    unfolding trace moments said_in echo
    said_acts s [] = refl
    said_acts s (time u ∷ acts) = ap (λ l. time u ∷ l) (said_acts (s + size (echo (gathers t) (time u) ∷ [])) acts)
    said_acts s (write i x p ∷ acts) =
        let r : ℕ = s + size (write_echo (gathers t) ((gathers t).vector i) i x p ∷ []) in
        said_write s _ i x p (map (echo (gathers t)) acts) refl ∙ ap (λ l. write i x p ∷ l) (said_acts r acts)
    said_acts s (step_end ∷ acts) = ap (λ l. step_end ∷ l) (said_acts (s + size (echo (gathers t) step_end ∷ [])) acts)

    pub trace_said : (h : List Happening) (acts : List Act) → echoes h ≡ map (echo (gathers t)) acts
        → said_in (trace 0 h) ≡ acts
    trace_said h acts e = said_echoes 0 0 h ∙ (rw e (said_acts 0 acts))

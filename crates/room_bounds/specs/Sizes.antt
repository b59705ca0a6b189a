-- How long the records and the values of events are.
-- Assumes nothing.
use Rattle.std.specs.Prelude.{ℕ, ◌+◌, ◌*◌, ◌≤◌, ◌≡◌, get_or, leb, eqb}
use Rattle.std.proofs.Math.Path.{refl}
use Rattle.std.proofs.Common.{ap, ◌∙◌, add-mul, eqb-true}
use mathlib.Core.List.{List, [], ◌∷◌, ◌++◌}
use native.Mathlib.Omega.{arith}
use Rattle.std.proofs.Math.ListN.{length, length-append}
use Rattle.slices.specs.Choice.{cond_ind}
use Rattle.numbers.specs.Fixed.{big_bytes}
use Rattle.states.specs.Kind.{state_of}
use Rattle.states.specs.Packed.{packed}
use Rattle.states.specs.Packed.Bytes.{length_packed}
use Rattle.tables.specs.Lists.{Lists, nth}
use Rattle.rules.specs.Vector.{began, wrote, shown, over}
use Rattle.rules.specs.Gather.{width, Happening, at, single, of, ends}
use Rattle.records.specs.Event.{Event, time, value, real, record_bytes, record_of, event_value, event_steps}
use Rattle.gather.specs.Run.{gathers, alone, of_vector, events_of}
use Rattle.gather.specs.Run.Rendered.{rendered, values_of, steps_of}
use Rattle.room_bounds.specs.Rooms.{vector_bytes}
use Rattle.room_bounds.specs.Rooms.Laws.{Widest}
use Rattle.room_bounds.specs.Gathered.{shown_in, Sized}

unfoldable pub size_of : List Event → ℕ
size_of [] = 0
size_of (e ∷ es) = length (record_bytes (record_of 0 e)) + size_of es

record_long : (k : ℕ) (e : Event) → length (record_bytes (record_of k e)) ≡ length (record_bytes (record_of 0 e))
unfolding record_bytes record_of big_bytes
record_long k (time u) = refl
record_long k (value v s reference bs) = refl
record_long k (real reference bits) = refl

pub rendered_size : (es : List Event) (k : ℕ) → length (rendered k es) ≡ size_of es
unfolding rendered size_of
rendered_size [] k = refl
rendered_size (e ∷ es) k = rw (length-append, record_long k e, rendered_size es (k + length (event_value e)))

pub size_append : (a b : List Event) → size_of (a ++ b) ≡ size_of a + size_of b
unfolding size_of
size_append [] b = omega arith
size_append (e ∷ a) b = omega (arith, size_append a b)

pub values_append : (a b : List Event) → length (values_of (a ++ b)) ≡ length (values_of a) + length (values_of b)
unfolding values_of
values_append [] b = omega arith
values_append (e ∷ a) b =
    let p = length-append (event_value e) (values_of (a ++ b)) in
    let q = length-append (event_value e) (values_of a) in
    omega (arith, values_append a b)

pub one_size : (a : List Event) (e : Event) (b : List Event)
    → size_of a + size_of (e ∷ b) ≡ size_of a + (length (record_bytes (record_of 0 e)) + size_of b)
unfolding size_of
one_size a e b = refl

pub one_value : (a : List Event) (e : Event) (b : List Event)
    → length (values_of a) + length (values_of (e ∷ b)) ≡ length (values_of a)
    + (length (event_value e) + length (values_of b))
unfolding values_of
one_value a e b = ap (λ (n : ℕ). length (values_of a) + n) (length-append (event_value e) (values_of b))

module _ (t : Lists) where
  -- of a signal outside vectors
  alone_long : (kind reference v : ℕ) → (length (record_bytes (record_of 0 (alone kind reference v))) ≡ 13)
      × (event_steps (alone kind reference v) ≡ 0)
  unfolding alone record_bytes record_of big_bytes event_steps
  alone_long kind reference v =
      cond_ind (leb kind 1) _ _ (λ e. (length (record_bytes (record_of 0 e)) ≡ 13) × (event_steps e ≡ 0))
      (λ a. (refl, refl))
      (λ a. cond_ind (leb kind 4) _ _ (λ e. (length (record_bytes (record_of 0 e)) ≡ 13) × (event_steps e ≡ 0))
      (λ b. (refl, refl))
      (λ b. cond_ind (eqb kind 5) _ _ (λ e. (length (record_bytes (record_of 0 e)) ≡ 13) × (event_steps e ≡ 0))
      (λ c. (refl, refl)) (λ c. (refl, refl))))

  -- a time's record has 9 bytes, every other 13
  pub events_size : (h : List Happening) → size_of (events_of t h) ≡ 13 * shown_in h + 9 * steps_of (events_of t h)
  unfolding size_of events_of of_vector shown_in steps_of event_steps record_bytes record_of big_bytes
  events_size [] = refl
  events_size (at u ∷ h) = omega (arith, events_size h)
  events_size (single i x p ∷ h) =
      let a = alone_long (nth t.kinds i) (nth t.refs i) x in
      omega (arith, events_size h, a.0, a.1)
  events_size (of v (began u) ∷ h) = events_size h
  events_size (of v (wrote x) ∷ h) = events_size h
  events_size (of v (shown c l) ∷ h) = omega (arith, events_size h)
  events_size (of v over ∷ h) = events_size h
  events_size (ends ∷ h) = events_size h

  module _ (w : ℕ) (k : Widest t w) where
    alone_value : (i v : ℕ) → length (event_value (alone (nth t.kinds i) (nth t.refs i) v)) ≤ w
    unfolding alone event_value big_bytes
    alone_value i v =
        let one = k.plain in
        cond_ind (leb (nth t.kinds i) 1) _ _ (λ e. length (event_value e) ≤ w) (λ a. omega arith)
        (λ a. cond_ind (leb (nth t.kinds i) 4) _ _ (λ e. length (event_value e) ≤ w) (λ b. omega arith)
        (λ b. cond_ind (eqb (nth t.kinds i) 5) _ _ (λ e. length (event_value e) ≤ w)
        (λ c. k.number i (eqb-true _ _ c)) (λ c. omega arith)))

    more : (n : ℕ) → (1 + n) * w ≡ w + n * w
    more n = add-mul 1 n w ∙ omega arith

    vector_value : (v : ℕ) (l : List ℕ) → length l ≡ width (gathers t) v
        → length (packed (state_of (get_or t.states v 0)) l) ≡ vector_bytes t v
    unfolding vector_bytes
    vector_value v l e = length_packed (state_of (get_or t.states v 0)) l ∙ rw e

    pub values_size : (h : List Happening) → Sized (gathers t) h → length (values_of (events_of t h)) ≤ shown_in h * w
    unfolding events_of of_vector values_of event_value shown_in Sized
    values_size [] z = omega arith
    values_size (at u ∷ h) z = values_size h z
    values_size (single i x p ∷ h) z =
        let a = alone_value i x in
        let l = length-append (event_value (alone (nth t.kinds i) (nth t.refs i) x)) (values_of (events_of t h)) in
        let r = values_size h z in
        rw (more (shown_in h)) (omega arith)
    values_size (of v (began u) ∷ h) z = values_size h z
    values_size (of v (wrote x) ∷ h) z = values_size h z
    values_size (of v (shown c l) ∷ h) z =
        let a = k.vector v in
        let r = values_size h z.1 in
        let q = length-append (packed (state_of (get_or t.states v 0)) l) (values_of (events_of t h)) in
        let b = vector_value v l z.0 in
        rw (more (shown_in h)) (omega arith)
    values_size (of v over ∷ h) z = values_size h z
    values_size (ends ∷ h) z = values_size h z

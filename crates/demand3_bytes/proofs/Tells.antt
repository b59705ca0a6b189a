-- One vector's part of the output is its history: its times and its events, in order, and what they show.
-- Assumes nothing.
use Rattle.std.specs.Prelude.{ℕ, suc, ◌+◌, ◌^◌, ◌<◌, ◌≡◌, Bool, false, eqb, get_or}
use Rattle.std.proofs.Math.Path.{refl}
use Rattle.std.proofs.Common.{sym, ap, ◌∙◌, add-zero}
use mathlib.Core.List.{List, [], ◌∷◌, ◌++◌, append_assoc, append-nil}
use native.Mathlib.Omega.{arith}
use borrow.Author.Tests.{eqb-true, eqb-false, eq-eqb, ne_eqb}
use Rattle.std.proofs.Math.Dec.{eqb-zero-suc}
use Rattle.std.proofs.Math.ListN.{length}
use Rattle.states.specs.Kind.{bits}
use Rattle.tables.specs.Lists.{Lists, nth}
use Rattle.rules.specs.Vector.{Cause, began, wrote, shown, over}
use Rattle.rules.proofs.Vector.Laws.{by_test}
use Rattle.rules.specs.Gather.{width, Good, Act, Happening, at, single, of, ends, own}
use Rattle.rules.proofs.Gather.Laws.{own_same}
use Rattle.rules.specs.Demand3 as whole
use Rattle.records.specs.declared.Record.TheVariants.{Time}
use Rattle.records.specs.Event.{Event, record_of, record_bytes, event_value}
use Rattle.records.specs.Event as events
use Rattle.event_streams.specs.Stream.{record_at, is_time}
use Rattle.gather.specs.Run.{gathers, events_of, of_vector}
use Rattle.gather.specs.Run.Rendered.{values_of}
use Rattle.demand3_bytes.specs.Statements.{Labelled, label_of, state_in, part_of, Tells}
use Rattle.demand3_bytes.proofs.Own.{own_at, own_single, own_ends, own_of, own_not}
use Rattle.demand3_bytes.specs.Trace.{labelled, labelled_from}
use Rattle.demand3_bytes.proofs.Trace.{event_of, alone_event, size, size_nil, size_append}
use Rattle.demand3_bytes.specs.Trace.Named.{Named}
use Rattle.demand3_bytes.proofs.Trace.Cuts.{alone_label, value_no_time, alone_no_time}
use Rattle.demand3_bytes.specs.Stored.{SmallItems}
use Rattle.demand3_bytes.proofs.Sentences.{happened, named_behind, shows_at}

-- ---- which records are of a vector's part

part_nil : (v : ℕ) → part_of v [] ≡ []
unfolding part_of
part_nil v = refl

time_bytes : (s u : ℕ) → (labelled s (events.time u)).bytes ≡ record_bytes (Time u)
unfolding labelled record_of
time_bytes s u = refl

module _ (v : ℕ) (rs : List Labelled) where
  part_in : (r : Labelled) → r.label ≡ suc v → is_time (record_at r.bytes 0) ≡ false
      → part_of v (r ∷ rs) ≡ r ∷ part_of v rs
  unfolding part_of
  part_in r e f = rw (f, e, eq-eqb (suc v) (suc v) refl)

  part_out : (r : Labelled) → eqb r.label (suc v) ≡ false → is_time (record_at r.bytes 0) ≡ false
      → part_of v (r ∷ rs) ≡ part_of v rs
  unfolding part_of
  part_out r e f = rw (f, e)

  part_time : (s u : ℕ) → part_of v (labelled s (events.time u) ∷ rs) ≡ labelled s (events.time u) ∷ part_of v rs
  unfolding part_of labelled record_of record_bytes record_at is_time
  part_time s u = refl

  part_alone : (t : Lists) (s i x : ℕ) → part_of v (labelled s (alone_event t i x) ∷ rs) ≡ part_of v rs
  unfolding labelled
  part_alone t s i x =
      part_out (labelled s (alone_event t i x))
      (rw (alone_label (nth t.kinds i) (nth t.refs i) x) (eqb-zero-suc v))
      (alone_no_time s (nth t.kinds i) (nth t.refs i) x)

  part_mine : (t : Lists) (s : ℕ) (l : List ℕ)
      → part_of v (labelled s (event_of t v l) ∷ rs) ≡ labelled s (event_of t v l) ∷ part_of v rs
  unfolding labelled label_of record_of
  part_mine t s l = part_in (labelled s (event_of t v l)) refl (value_no_time (state_in t v) (get_or t.vec_refs v 0) s _)

  part_other : (t : Lists) (s u : ℕ) (l : List ℕ) → eqb v u ≡ false
      → part_of v (labelled s (event_of t u l) ∷ rs) ≡ part_of v rs
  unfolding labelled label_of record_of
  part_other t s u l e =
      part_out (labelled s (event_of t u l)) (ne_eqb (suc u) (suc v)
      (λ z. let d : v ≡ u = omega arith in eqb-false v u e d)) (value_no_time (state_in t u) (get_or t.vec_refs u 0) s _)

-- ---- the whole output

module _ (early : ℕ → Bool) (t : Lists) (good : Good (gathers t)) (acts : List Act)
    (d : whole.Demand3 early (gathers t) acts)
    (small : (v : ℕ) → SmallItems (2 ^ bits (state_in t v)) (own v (happened early t good acts d)))
    (values zeros : List ℕ)
    (held : values ≡ values_of (events_of t (happened early t good acts d)) ++ zeros)
    (few : size t (happened early t good acts d) < 2 ^ 32) (v : ℕ) where
  abbrev all : List Happening
  all = happened early t good acts d

  abbrev w : ℕ
  w = width (gathers t) v

  Rest : (s : ℕ) → List Happening → Type 0
  Rest s h = Tells t v w values (own v h) (part_of v (labelled_from s (events_of t h)))

  -- what follows an event that stands behind `a`
  next : (a : List Happening) (x : Happening) (e : Event) → events_of t (x ∷ []) ≡ e ∷ []
      → size t (a ++ x ∷ []) ≡ size t a + length (event_value e)
  unfolding values_of
  next a x e q = size_append t a (x ∷ []) ∙ rw q (ap (λ n. size t a + length n) (append-nil (event_value e)))

  same_size : (a : List Happening) (x : Happening) → events_of t (x ∷ []) ≡ [] → size t (a ++ x ∷ []) ≡ size t a
  unfolding values_of
  same_size a x q = size_append t a (x ∷ []) ∙ rw q (add-zero (size t a))

  shift : (a : List Happening) (x : Happening) (h : List Happening) → all ≡ a ++ x ∷ h → all ≡ (a ++ x ∷ []) ++ h
  shift a x h e = e ∙ sym (append_assoc a (x ∷ []) h)

  mine : (a h : List Happening) (c : Cause) (l : List ℕ) → all ≡ a ++ of v (shown c l) ∷ h
      → Rest (size t a + length (event_value (event_of t v l))) h → Rest (size t a) (of v (shown c l) ∷ h)
  unfolding Rest events_of of_vector labelled_from Tells
  mine a h c l e rec =
      rw (
        own_of v h (shown c l),
        part_mine v
            (labelled_from (size t a + length (event_value (event_of t v l))) (events_of t h)) t (size t a) l,
      ) (
        labelled (size t a)
            (event_of t v l),
        _,
        refl,
        shows_at early t good acts d small values zeros held few v c l a h e
            (labelled (size t a) (event_of t v l)) refl,
        rec,
      )

  from : (a h : List Happening) → all ≡ a ++ h → Rest (size t a) h
  unfolding Rest events_of of_vector labelled_from Tells Named
  from a [] e = rw (own_same v []) (part_nil v)
  from a (at u ∷ h) e =
      let rec = rw (next a (at u) (events.time u) refl) at (from (a ++ at u ∷ []) h (shift a (at u) h e)) in
      rw (
        own_at v h u,
        part_time v (labelled_from (size t a + length (event_value (events.time u))) (events_of t h))
            (size t a) u,
      ) (labelled (size t a) (events.time u), _, refl, time_bytes (size t a) u, rec)
  from a (single i x p ∷ h) e =
      let rec = rw (next a (single i x p) (alone_event t i x) refl) at
      (from (a ++ single i x p ∷ []) h (shift a (single i x p) h e)) in
      rw (
        own_single v h i x p,
        part_alone v
            (labelled_from (size t a + length (event_value (alone_event t i x))) (events_of t h)) t (size t a) i x,
      ) rec
  from a (of u (began y) ∷ h) e = absurd (named_behind early t good acts d a (of u (began y) ∷ h) e)
  from a (of u (wrote y) ∷ h) e =
      let rec = rw (same_size a (of u (wrote y)) refl) at
      (from (a ++ of u (wrote y) ∷ []) h (shift a (of u (wrote y)) h e)) in
      by_test (eqb v u) (λ q. rw (← eqb-true v u q, own_of v h (wrote y)) rec)
      (λ q. rw (own_not v h u (wrote y) (eqb-false v u q)) rec)
  from a (of u (shown c l) ∷ h) e =
      let rec = rw (next a (of u (shown c l)) (event_of t u l) refl) at
      (from (a ++ of u (shown c l) ∷ []) h (shift a (of u (shown c l)) h e)) in
      by_test (eqb v u) (λ q. let f = eqb-true v u q in rw (← f) (mine a h c l (rw (← f) at e) (rw (← f) at rec)))
      (λ q. rw (
        own_not v h u (shown c l) (eqb-false v u q),
        part_other v
            (labelled_from (size t a + length (event_value (event_of t u l))) (events_of t h)) t (size t a) u l q,
      ) rec)
  from a (of u over ∷ h) e = absurd (named_behind early t good acts d a (of u over ∷ h) e)
  from a (ends ∷ h) e = rw (own_ends v h) (rw (same_size a ends refl) at (from (a ++ ends ∷ []) h (shift a ends h e)))

  pub tells : Tells t v w values (own v all) (part_of v (labelled_from 0 (events_of t all)))
  unfolding Rest
  tells = rw (size_nil t) at (from [] all refl)

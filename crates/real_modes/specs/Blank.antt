-- Acts and events, the bits of reals aside: what happens of acts without them is what happens, without them.
-- Assumes nothing.
use Prim.Native.Nat.{ℕ, zero, suc, ◌≤◌, ◌<◌}
use Rattle.std.specs.Prelude.{◌≡◌, Bool, true, false, cond, leb, eqb}
use Rattle.std.proofs.Math.Path.{refl, sym, ap}
use Rattle.std.proofs.Common.{◌∙◌, arith, le-leb, ne_eqb, leb-true, leb-false}
use Rattle.std.proofs.Math.Logic.{⊎_elim}
use mathlib.Core.List.{List, [], ◌∷◌, ◌++◌, map, map-append}
use Rattle.std.proofs.lemmas.Bool.{lt-leb, eqb-false}
use Rattle.slices.specs.Choice.{cond_ind, le_or_lt}
use Rattle.tables.specs.Lists.{Lists, nth}
use Rattle.values.specs.Value.Manners.{without_real}
use Rattle.rules.specs.Vector.{put, Item, began, wrote, shown, over, Vec, any, ended, fires, act, acts_early}
use Rattle.rules.specs.Gather.{Act, time, write, step_end, Happening, at, single, of, ends, State, width, with, end_all, bit_write, to_vector, toward, does, happens}
use Rattle.rules.specs.Scan.{Scan, say, done, fault, acts}
use Rattle.records.specs.Event as event
use Rattle.records.specs.Event.{Event}
use Rattle.gather.specs.Run.{gathers, alone, of_vector, events_of}
use Rattle.gather.specs.Run.Events.{made}
use Rattle.section_scan.specs.Sections.Manners.{blank_act, blank}

-- an event, a real's bits aside
unfoldable pub blank_event : Event → Event
blank_event (event.time u) = event.time u
blank_event (event.value v s reference bs) = event.value v s reference bs
blank_event (event.real reference bits) = event.real reference 0

alone_blank : (kind reference x : ℕ) → alone kind reference (without_real kind x) ≡ blank_event (alone kind reference x)
unfolding alone without_real blank_event
alone_blank kind reference x = by (leb kind 5) refl
  where
    Same : Event → Type 0
    Same e = e ≡ blank_event e

    by : (b : Bool) → leb kind 5 ≡ b → alone kind reference (cond b x 0) ≡ blank_event (alone kind reference x)
    by true e =
        cond_ind (leb kind 1) _ _ Same (λ a. refl)
        (λ a. cond_ind (leb kind 4) _ _ Same (λ b. refl)
        (λ b. cond_ind (eqb kind 5) _ _ Same (λ c. refl)
        (λ c. absurd (omega (arith, leb-true kind 5 e, leb-false kind 4 b, eqb-false kind 5 c)))))
    by false e =
        let h : 5 < kind = leb-false kind 5 e in
        let n : kind ≡ 5 → ⊥ = λ z. omega arith in
        rw (lt-leb kind 1 (omega arith), lt-leb kind 4 (omega arith), ne_eqb kind 5 n)

module _ (t : Lists) where
  -- a written value, by its id
  abbrev pub unvalued : (id v : ℕ) → ℕ
  unvalued id v = without_real (nth t.kinds id) v

  unfoldable pub blank_happening : Happening → Happening
  blank_happening (at u) = at u
  blank_happening (single i x p) = single i (unvalued i x) p
  blank_happening (of v i) = of v i
  blank_happening ends = ends

  pub events_blank : (h : List Happening) → events_of t (map blank_happening h) ≡ map blank_event (events_of t h)
  unfolding events_of of_vector blank_happening blank_event
  events_blank [] = refl
  events_blank (at u ∷ h) = ap (λ (es : List Event). event.time u ∷ es) (events_blank h)
  events_blank (single i x p ∷ h) =
      ap (λ (e : Event). e ∷ events_of t (map blank_happening h)) (alone_blank (nth t.kinds i) (nth t.refs i) x)
      ∙ ap (λ (es : List Event). blank_event (alone (nth t.kinds i) (nth t.refs i) x) ∷ es) (events_blank h)
  events_blank (of v (began u) ∷ h) = events_blank h
  events_blank (of v (wrote x) ∷ h) = events_blank h
  events_blank (of v (shown c l) ∷ h) = ap (λ (es : List Event). of_vector t v (shown c l) ++ es) (events_blank h)
  events_blank (of v over ∷ h) = events_blank h
  events_blank (ends ∷ h) = events_blank h

  -- what happens to vectors shows no real
  vector_blank : (v : ℕ) (l : List Item) → map blank_happening (map (of v) l) ≡ map (of v) l
  unfolding blank_happening
  vector_blank v [] = refl
  vector_blank v (i ∷ l) = ap (λ (h : List Happening). of v i ∷ h) (vector_blank v l)

  end_blank : (vs : List ℕ) (vecs : ℕ → Vec) → map blank_happening (end_all vs vecs).0 ≡ (end_all vs vecs).0
  unfolding end_all
  end_blank [] vecs = refl
  end_blank (v ∷ vs) vecs =
      let e = fires (any (vecs v).marks) ended (vecs v) in
      let r = end_all vs (with vecs v e.1) in
      map-append blank_happening (map (of v) e.0) r.0
      ∙ (ap (λ (h : List Happening). h ++ map blank_happening r.0) (vector_blank v e.0)
      ∙ ap (λ (h : List Happening). map (of v) e.0 ++ h) (end_blank vs (with vecs v e.1)))

  -- a real is no vector bit
  abbrev pub RealsAlone : Type 0
  RealsAlone = (i : ℕ) → 5 < nth t.kinds i → nth t.vecs i ≡ 0

  module _ (g : State) where
    unvalued_same : (i x : ℕ) → nth t.kinds i ≤ 5 → unvalued i x ≡ x
    unfolding without_real
    unvalued_same i x h = rw (le-leb (nth t.kinds i) 5 h)

    toward_blank : (number i x p : ℕ) → (5 < nth t.kinds i → number ≡ 0)
        → (map blank_happening (toward acts_early (gathers t) g number i x p).0 ≡ (toward acts_early (gathers t) g number i (unvalued i x) p).0)
        × ((toward acts_early (gathers t) g number i x p).1 ≡ (toward acts_early (gathers t) g number i (unvalued i x) p).1)
    unfolding toward to_vector blank_happening
    toward_blank zero i x p h = (refl, refl)
    toward_blank (suc v) i x p h =
        ⊎_elim (λ (k : nth t.kinds i ≤ 5). rw (unvalued_same i x k) (vector_blank v (act (acts_early (width (gathers t) v)) (g.vecs v) (put (bit_write (gathers t) v i x p))).0, refl))
        (λ (k : 5 < nth t.kinds i). let z : suc v ≡ 0 = h k in absurd (omega arith)) (le_or_lt (nth t.kinds i) 5)

    module _ (r : RealsAlone) where
      pub does_blank : (a : Act)
          → (map blank_happening (does acts_early (gathers t) g a).0 ≡ (does acts_early (gathers t) g (blank_act unvalued a)).0)
          × ((does acts_early (gathers t) g a).1 ≡ (does acts_early (gathers t) g (blank_act unvalued a)).1)
      unfolding does blank_act blank_happening gathers
      does_blank (time u) = (refl, refl)
      does_blank (write i x p) = toward_blank (nth t.vecs i) i x p (r i)
      does_blank step_end =
          let h = (end_all g.listed g.vecs).0 in
          (map-append blank_happening h (ends ∷ []) ∙ ap (λ (l : List Happening). l ++ ends ∷ []) (end_blank g.listed g.vecs), refl)

  -- ---- all acts

  module _ (r : RealsAlone) where
    happens_blank : (g : State) (l : List Act)
        → map blank_happening (happens acts_early (gathers t) g l) ≡ happens acts_early (gathers t) g (map (blank_act unvalued) l)
    unfolding happens
    happens_blank g [] = refl
    happens_blank g (a ∷ l) =
        let now = does acts_early (gathers t) g a in
        let d = does_blank g r a in
        map-append blank_happening now.0 (happens acts_early (gathers t) now.1 l)
        ∙ (ap (λ (h : List Happening). h ++ map blank_happening (happens acts_early (gathers t) now.1 l)) d.0
        ∙ (ap (λ (h : List Happening). (does acts_early (gathers t) g (blank_act unvalued a)).0 ++ h) (happens_blank now.1 l)
        ∙ ap (λ (k : State). (does acts_early (gathers t) g (blank_act unvalued a)).0 ++ happens acts_early (gathers t) k (map (blank_act unvalued) l)) d.1))

    acts_blank : (sc : Scan) → map (blank_act unvalued) (acts sc) ≡ acts (blank unvalued sc)
    unfolding acts blank
    acts_blank (say a p sc) = ap (λ (l : List Act). blank_act unvalued a ∷ l) (acts_blank sc)
    acts_blank (done i) = refl
    acts_blank (fault n p) = refl

    -- the events of a scan, the bits of reals aside, are those of the scan without them
    pub made_blank : (g : State) (sc : Scan) → map blank_event (made t g (acts sc)) ≡ made t g (acts (blank unvalued sc))
    unfolding made
    made_blank g sc =
        sym (events_blank (happens acts_early (gathers t) g (acts sc)))
        ∙ (ap (events_of t) (happens_blank g (acts sc)) ∙ ap (λ (l : List Act). events_of t (happens acts_early (gathers t) g l)) (acts_blank sc))

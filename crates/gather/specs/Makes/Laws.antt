-- How the parts compose, and what they say of the acts.
-- Assumes nothing.
use Rattle.event_rooms.specs.Put.{Put}
use Rattle.std.specs.Prelude.{◌≡◌, ℕ, suc, ◌-◌, Bool, cond, ◌&&◌, eqb, get_or, None, Some}
use Rattle.std.proofs.Math.Path.{refl, ap}
use Rattle.std.proofs.Common.{sym, ◌∙◌, eqb-true, eq-eqb}
use Rattle.std.proofs.Math.Bool.{true, false}
use Rattle.std.proofs.Math.Option.{Option, some}
use mathlib.Core.List.{List, [], ◌∷◌, ◌++◌, map, append_assoc, map-append}
use Rattle.slices.specs.Choice.{cond_ind}
use Rattle.tables.specs.Lists.{Lists, nth}
use Rattle.tables.specs.Layout.{layout_of}
use Rattle.rules.specs.Vector.{Write, Cause, rewritten, complete, Vec, all, cleared, fires, clashes, stored, acts_early, act}
use Rattle.rules.specs.Vector as op
use Rattle.rules.specs.Gather.{write, Happening, at, single, of, ends, State, with, list, width, bit_write, to_vector, toward, does}
use Rattle.records.specs.Event.{Event}
use Rattle.event_rooms.specs.Out.{Rooms, Out, append_all}
use Rattle.vecbuffer.specs.Stands.{storing, clearing}
use Rattle.vecbuffer.proofs.Stands.Laws.{stands_as}
use Rattle.gather.specs.Run.{gathers, of_vector, events_of, acted, after}
use Rattle.gather.specs.Memory.{Mem, HoldsAt}
use Rattle.gather.specs.Follows.{Wrote, Done, Full, Acts, Follows}
use Rattle.gather.specs.declared.Gathered.{Gathered}
use Rattle.gather.specs.Makes.{FollowsAt, Makes, event_of, shown_events, shown_state, write_of, rewrites, completes, stored_state, bit_events, bit_state}

-- the same state, said in another way
pub holds_as : {t : Lists} {r : Rooms} {m : Mem} {i : ℕ} {c : Gathered} {g : State} {o : Out} (g' : State) → HoldsAt t r m i c g o → ((w : ℕ) → g.vecs w ≡ g'.vecs w) → g.listed ≡ g'.listed → HoldsAt t r m i c g' o
holds_as g' h e l = record { stands = stands_as g' h.stands e l; clean = h.clean; written = h.written }

pub follows_as : (t : Lists) (r : Rooms) (m : Mem) (i : ℕ) (w : Wrote) {g : State} (g' : State) {x y : Option Out} → FollowsAt t r m i w g x → ((v : ℕ) → g.vecs v ≡ g'.vecs v) → g.listed ≡ g'.listed → y ≡ x → FollowsAt t r m i w g' y
follows_as t r m i (Done c) g' f e l d = (f.0, d ∙ f.1, holds_as g' f.2 e l)
follows_as t r m i Full g' f e l d = d ∙ f

pub follows_first : (t : Lists) (r : Rooms) (m : Mem) (w : Wrote) (g : State) (x : Option Out) → FollowsAt t r m 0 w g x → Follows t r m w g x
follows_first t r m (Done c) g x f = f
follows_first t r m Full g x f = f

-- ---- the acts

module _ (t : Lists) where
  pub events_append : (a b : List Happening) → events_of t (a ++ b) ≡ events_of t a ++ events_of t b
  unfolding events_of
  events_append [] b = refl
  events_append (at u ∷ a) b = rw (events_append a b)
  events_append (single i x p ∷ a) b = rw (events_append a b)
  events_append (of v i ∷ a) b = rw (events_append a b) (sym (append_assoc (of_vector t v i) (events_of t a) (events_of t b)))
  events_append (ends ∷ a) b = events_append a b

  -- where a rule acts
  pub events_fires : (v : ℕ) (b : Bool) (cause : Cause) (y : Vec) → events_of t (map (of v) (fires b cause y).0) ≡ cond b (event_of t v y ∷ []) []
  unfolding events_of of_vector fires event_of
  events_fires v true cause y = refl
  events_fires v false cause y = refl

  -- of a write to a bit
  act_events : (v : ℕ) (early : Bool) (y : Vec) (x : Write)
      → let a = fires (clashes y x) rewritten y in
      events_of t (map (of v) (act early y (op.put x)).0) ≡ cond (clashes y x) (event_of t v y ∷ []) [] ++ cond (early && all (stored a.1 x).marks) (event_of t v (stored a.1 x) ∷ []) []
  unfolding act events_of of_vector
  act_events v early y x =
      rw (
        map-append (of v) (fires (clashes y x) rewritten y).0,
        events_append,
        events_fires v (clashes y x) rewritten y,
        events_fires v (early && all (stored (fires (clashes y x) rewritten y).1 x).marks) complete (stored (fires (clashes y x) rewritten y).1 x),
      )

-- a vector that stays
pub with_self : (vecs : ℕ → Vec) (v w : ℕ) → vecs w ≡ with vecs v (vecs v) w
unfolding with
with_self vecs v w = go (eqb w v) refl
  where
    go : (m : Bool) → eqb w v ≡ m → vecs w ≡ cond m (vecs v) (vecs w)
    go true e = ap vecs (eqb-true w v e)
    go false e = refl

with_twice : (vecs : ℕ → Vec) (v : ℕ) (x y : Vec) (w : ℕ) → with (with vecs v x) v y w ≡ with vecs v y w
unfolding with
with_twice vecs v x y w = go (eqb w v)
  where
    go : (m : Bool) → cond m y (cond m x (vecs w)) ≡ cond m y (vecs w)
    go true = refl
    go false = refl

with_at : (vecs : ℕ → Vec) (v : ℕ) (y : Vec) → with vecs v y v ≡ y
unfolding with
with_at vecs v y = rw (eq-eqb v v refl)

-- the same vectors elsewhere, and another in place of one
with_same : (f f' : ℕ → Vec) (v : ℕ) (y : Vec) → ((w : ℕ) → f w ≡ f' w) → (w : ℕ) → with f v y w ≡ with f' v y w
unfolding with
with_same f f' v y e w = rw (e w)

-- a rule's part of the state
pub shown_vecs : (v : ℕ) (test : Vec → Bool) (cause : Cause) (g : State) (w : ℕ) → (shown_state v test g).vecs w ≡ with g.vecs v (fires (test (g.vecs v)) cause (g.vecs v)).1 w
unfolding shown_state clearing fires
shown_vecs v test cause g w = go (test (g.vecs v))
  where
    go : (b : Bool) → (cond b (record { vecs = with g.vecs v (cleared (g.vecs v)); listed = g.listed }) g).vecs w ≡ with g.vecs v (fires b cause (g.vecs v)).1 w
    go true = refl
    go false = with_self g.vecs v w

pub shown_listed : (v : ℕ) (test : Vec → Bool) (g : State) → (shown_state v test g).listed ≡ g.listed
unfolding shown_state clearing
shown_listed v test g = cond_ind (test (g.vecs v)) _ _ (λ (s : State). s.listed ≡ g.listed) (λ _. refl) (λ _. refl)

-- a write to a bit of a vector
module _ (t : Lists) (v bit x : ℕ) (g : State) where
  -- the vector after (a), and after (b)
  abbrev one : Vec
  one = (fires (rewrites bit x (g.vecs v)) rewritten (g.vecs v)).1

  abbrev two : Vec
  two = stored one (write_of bit x)

  shown_one : (shown_state v (rewrites bit x) g).vecs v ≡ one
  shown_one = shown_vecs v (rewrites bit x) rewritten g v ∙ with_at g.vecs v one

  two_is : (stored_state v bit x g).vecs v ≡ two
  unfolding stored_state storing
  two_is = with_at _ v _ ∙ ap (λ (y : Vec). stored y (write_of bit x)) shown_one

  stored_vecs : (w : ℕ) → (stored_state v bit x g).vecs w ≡ with g.vecs v two w
  unfolding stored_state storing
  stored_vecs w =
      with_same _ _ v _ (shown_vecs v (rewrites bit x) rewritten g) w
      ∙ (with_twice g.vecs v one _ w ∙ ap (λ (y : Vec). with g.vecs v (stored y (write_of bit x)) w) shown_one)

  three_is : (w : ℕ) → (bit_state t v bit x g).vecs w ≡ with g.vecs v (fires (completes ((layout_of t).width v) two) complete two).1 w
  unfolding bit_state
  three_is w =
      shown_vecs v (completes ((layout_of t).width v)) complete (stored_state v bit x g) w
      ∙ rw two_is (with_same _ _ v _ stored_vecs w ∙ with_twice g.vecs v _ _ w)

  listed_is : (bit_state t v bit x g).listed ≡ list v g.listed
  unfolding bit_state stored_state storing
  listed_is = shown_listed v (completes ((layout_of t).width v)) (stored_state v bit x g) ∙ ap (list v) (shown_listed v (rewrites bit x) g)

module _ (t : Lists) (id v bit x p : ℕ) (number : nth t.vecs id ≡ suc v) (place : bit ≡ get_or t.maxs v 0 - id) (wide : width (gathers t) v ≡ (layout_of t).width v) (g : State) where
  abbrev done : List Happening × State
  done = does acts_early (gathers t) g (write id x p)

  pub bit_events_lem : events_of t done.0 ≡ bit_events t v bit x g
  unfolding does toward to_vector act bit_write gathers bit_events shown_events rewrites completes clashes stored
  bit_events_lem = rw (number, ← place, wide) (act_events t v (acts_early ((layout_of t).width v)) (g.vecs v) (record { bit = bit; value = x; pos = p }) ∙ rw (two_is t v bit x g))

  pub bit_vecs : (w : ℕ) → (bit_state t v bit x g).vecs w ≡ done.1.vecs w
  unfolding does toward to_vector act bit_write gathers rewrites completes clashes stored
  bit_vecs w = rw (number, ← place, wide) (three_is t v bit x g w)

  pub bit_listed : (bit_state t v bit x g).listed ≡ done.1.listed
  unfolding does toward to_vector gathers
  bit_listed = rw (number) (listed_is t v bit x g)

-- code that does what (a), (b) and (c) say writes the bit
pub acts_bit : {t : Lists} {m m' : Mem} {c : Gathered} {w : Wrote} (id v bit x p : ℕ) → Makes t 0 0 m m' c w (bit_events t v bit x) (bit_state t v bit x)
    → nth t.vecs id ≡ suc v → bit ≡ get_or t.maxs v 0 - id → width (gathers t) v ≡ (layout_of t).width v → Acts t m m' c w (write id x p)
unfolding acted after
acts_bit {t} {m' = m'} {w = w} id v bit x p f number place wide =
    record {
      follows = λ r g o h.
          follows_first t r m' w _ _
          (follows_as t r m' 0 w (after t r g (write id x p)) (f.makes r g o h) (bit_vecs t id v bit x p number place wide g) (bit_listed t id v bit x p number place wide g)
          (ap (λ (es : List Event). append_all r es (some o)) (bit_events_lem t id v bit x p number place wide g)));
    }

-- ---- the answer of an append

abbrev pub wrote_of : Gathered → Put → Wrote
wrote_of c (Some n) = Done (record { ended = c.ended; listed = c.listed; counts = n })
wrote_of c None = Full

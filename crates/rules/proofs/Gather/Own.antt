-- One vector's part of what the whole gatherer does is that vector's own history.
-- Assumes nothing.
use Rattle.std.specs.Prelude.{◌≡◌, ◌≢◌, Bool, true, false, cond, eqb}
use Rattle.std.proofs.Math.Path.{refl, sym, ap}
use Rattle.std.proofs.Common.{◌∙◌, arith, eqb-true}
use mathlib.Core.List.{List, [], ◌∷◌, ◌++◌, append-nil}
use Prim.Native.Nat.{ℕ, zero, suc, ◌<◌}
use Rattle.std.proofs.Math.Dec.{eqb-zero-suc, eqb-suc-suc}
use Rattle.std.proofs.lemmas.Bool.{eqb-false}
use Rattle.rules.specs.Vector.{Op, start, put, stop, ended, Item, Vec, fresh, act, history}
use Rattle.rules.specs.Vector.Laws.{vec_after}
use Rattle.rules.proofs.Vector.Laws.{by_test, end_clears, history_append, after_append as vec-append}
use Rattle.rules.specs.Gather.{Tables, width, Good, Act, time, write, step_end, Happening, ends, State, begin, end_all, bit_write, to_vector, toward, does, happens, own, told}
use Rattle.rules.specs.Gather.Laws.{Sound, state_after}
use Rattle.rules.proofs.Gather.Laws.{with_same, with_other, own_append, own_same, own_other, end_own, end_unmarked, sound_begin, sound_does, covered}
use Rattle.rules.specs.Owned.{Inside}
use Rattle.rules.proofs.Owned.Laws.{inside_nil, inside_start, inside_put, inside_stop}
use Rattle.rules.specs.History.{heard}
use Rattle.rules.proofs.History.Laws.{heard_history}
use Rattle.slices.specs.Choice.{cond_ind}

-- ---- what a vector is told

module _ (t : Tables) (v : ℕ) where
  pub told_nil : told t v [] ≡ []
  unfolding told
  told_nil = refl

  pub told_time : (u : ℕ) (acts : List Act) → told t v (time u ∷ acts) ≡ start u ∷ told t v acts
  unfolding told
  told_time u acts = refl

  pub told_write : (i x p : ℕ) (acts : List Act) → told t v (write i x p ∷ acts) ≡ cond (eqb (t.vector i) (suc v)) (put (bit_write t v i x p) ∷ told t v acts) (told t v acts)
  unfolding told
  told_write i x p acts = refl

  pub told_stop : (acts : List Act) → told t v (step_end ∷ acts) ≡ stop ∷ told t v acts
  unfolding told
  told_stop acts = refl

-- .. part by part
pub told_append : (t : Tables) (v : ℕ) (a b : List Act) → told t v (a ++ b) ≡ told t v a ++ told t v b
unfolding told
told_append t v [] b = refl
told_append t v (time u ∷ a) b = ap (λ l. start u ∷ l) (told_append t v a b)
told_append t v (write i x p ∷ a) b = by_test (eqb (t.vector i) (suc v)) (λ q. rw q (ap (λ l. put (bit_write t v i x p) ∷ l) (told_append t v a b))) (λ q. rw q (told_append t v a b))
told_append t v (step_end ∷ a) b = ap (λ l. stop ∷ l) (told_append t v a b)

pub told_end : (t : Tables) (v : ℕ) (acts : List Act) → told t v (acts ++ step_end ∷ []) ≡ told t v acts ++ stop ∷ []
unfolding told
told_end t v acts = told_append t v acts (step_end ∷ [])

-- ---- the gatherer, seen from one vector

module _ (early : ℕ → Bool) (t : Tables) (v : ℕ) where
  -- from a state on, what happens to the vector is what its own operations make happen, and it stands as they leave it
  abbrev Alone : State → List Happening × State → List Op → Type 0
  Alone s r ops = (own v r.0 ≡ history (early (width t v)) (s.vecs v) ops) × (r.1.vecs v ≡ vec_after (early (width t v)) (s.vecs v) ops)

  alone_toward : (s : State) (n i x p : ℕ) → Alone s (toward early t s n i x p) (cond (eqb n (suc v)) (put (bit_write t v i x p) ∷ []) [])
  unfolding toward to_vector own history vec_after
  alone_toward s zero i x p = rw (eqb-zero-suc v) (refl, refl)
  alone_toward s (suc u) i x p = rw (eqb-suc-suc u v) (by_test (eqb u v) here there)
    where
      r : List Item × Vec
      r = act (early (width t u)) (s.vecs u) (put (bit_write t u i x p))

      Goal : Type 0
      Goal = Alone s (toward early t s (suc u) i x p) (cond (eqb u v) (put (bit_write t v i x p) ∷ []) [])

      here : eqb u v ≡ true → Goal
      here q = rw (q, ← eqb-true u v q) (own_same u r.0 ∙ sym (append-nil r.0), with_same s.vecs u r.1)

      there : eqb u v ≡ false → Goal
      there q = let n : v ≢ u = λ e. eqb-false u v q (sym e) in rw q (own_other v u r.0 n, with_other s.vecs u r.1 v n)

  -- one act
  pub own_act : (s : State) (a : Act) → Sound t s → Alone s (does early t s a) (told t v (a ∷ []))
  unfolding does told own history vec_after act
  own_act s (time u) o = (refl, refl)
  own_act s (write i x p) o = alone_toward s (t.vector i) i x p
  own_act s step_end o = (
    own_append v (end_all s.listed s.vecs).0 (ends ∷ []) ∙ rw (end_own s.listed s.vecs v, covered t s o v) (sym (append-nil _)),
    end_unmarked t s o v ∙ sym (end_clears ended (s.vecs v)),
  )

  own_from : (s : State) (acts : List Act) → Sound t s → Alone s (happens early t s acts, state_after early t s acts) (told t v acts)
  unfolding happens state_after told own history vec_after
  own_from s [] o = (refl, refl)
  own_from s (a ∷ acts) o =
      let one = own_act s a o in
      let rest = own_from (does early t s a).1 acts (sound_does early t s a o) in (
        own_append v (does early t s a).0 _ ∙ rw (one.0, rest.0, one.1) (sym (history_append _ (s.vecs v) (told t v (a ∷ [])) (told t v acts))) ∙ ap (history _ (s.vecs v)) (sym (told_append t v (a ∷ []) acts)),
        rest.1 ∙ rw one.1 (sym (vec-append _ (s.vecs v) (told t v (a ∷ [])) (told t v acts))) ∙ ap (vec_after _ (s.vecs v)) (sym (told_append t v (a ∷ []) acts)),
      )

  -- one vector's part of what happens is that vector's own history
  pub own_history : (acts : List Act) → own v (happens early t (begin t) acts) ≡ history (early (width t v)) (fresh (width t v)) (told t v acts)
  unfolding begin
  own_history acts = (own_from (begin t) acts (sound_begin t)).0

  -- .. and it stands as that leaves it
  pub own_after : (acts : List Act) → (state_after early t (begin t) acts).vecs v ≡ vec_after (early (width t v)) (fresh (width t v)) (told t v acts)
  unfolding begin
  own_after acts = (own_from (begin t) acts (sound_begin t)).1

-- ---- every write to a vector of a good table names one of its bits

pub bit_inside : (t : Tables) → Good t → (v i x p : ℕ) → t.vector i ≡ suc v → (bit_write t v i x p).bit < width t v
unfolding bit_write width Good
bit_inside t g v i x p e = let (low, high) = g i v e in omega arith

pub told_inside : (t : Tables) → Good t → (v : ℕ) (acts : List Act) → Inside (width t v) (told t v acts)
unfolding told
told_inside t g v [] = inside_nil _
told_inside t g v (time u ∷ acts) = (inside_start _ u _).1 (told_inside t g v acts)
told_inside t g v (write i x p ∷ acts) =
    cond_ind (eqb (t.vector i) (suc v)) _ _ (Inside (width t v)) (λ q. (inside_put _ _ _).1 (bit_inside t g v i x p (eqb-true _ _ q), told_inside t g v acts)) (λ q. told_inside t g v acts)
told_inside t g v (step_end ∷ acts) = (inside_stop _ _).1 (told_inside t g v acts)

-- ---- nothing is lost on the way: a vector's history, without its events, is what the input says to it

pub nothing_lost_of : (early : ℕ → Bool) (t : Tables) (v : ℕ) (acts : List Act) → heard (own v (happens early t (begin t) acts)) ≡ told t v acts
nothing_lost_of early t v acts = ap heard (own_history early t v acts) ∙ heard_history _ _ (told t v acts)

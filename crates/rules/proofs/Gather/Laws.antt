-- Laws of the gatherer's parts: one vector replaced, the list of written vectors, the step's end; and what holds of every state that it reaches.
-- Assumes nothing.
use Rattle.std.specs.Prelude.{◌≡◌, refl, ◌≢◌, Bool, true, false, cond, ◌&&◌, ◌||◌, List, [], ◌∷◌, ◌++◌, map, ℕ, zero, suc, eqb}
use Rattle.std.proofs.Common.{sym, ap, ◌∙◌, append-nil, append_assoc, eqb-true, eq-eqb, ne_eqb}
use Rattle.std.proofs.Math.Bool.{and-false, or-true, or-false, or_assoc}
use Rattle.std.proofs.lemmas.Bool.{eqb-false}
use Rattle.rules.specs.Vector.{Write, put, Cause, ended, Item, began, over, Vec, any, fresh, cleared, fires, act}
use Rattle.rules.proofs.Vector.Laws.{by_test, never_both, not_true_is_false, any_clear, wide_fresh, wide_cleared, wide_act, cleared_any, cleared_unmarked, cleared_twice, end_clears, fired_any}
use Rattle.rules.specs.Gather.{Tables, width, Act, time, write, step_end, Happening, at, single, of, ends, State, begin, with, elem, list, end_all, bit_write, to_vector, toward, does, happens, own}
use Rattle.rules.specs.Gather.Laws.{Distinct, Sound, state_after}

-- ---- one vector replaced

pub with_same : (vecs : ℕ → Vec) (v : ℕ) (x : Vec) → with vecs v x v ≡ x
unfolding with
with_same vecs v x = rw (eq-eqb v v refl)

pub with_other : (vecs : ℕ → Vec) (v : ℕ) (x : Vec) (u : ℕ) → u ≢ v → with vecs v x u ≡ vecs u
unfolding with
with_other vecs v x u n = rw (ne_eqb u v n)

-- ---- the list of written vectors

pub elem_append : (v : ℕ) (us vs : List ℕ) → elem v (us ++ vs) ≡ (elem v us || elem v vs)
unfolding elem
elem_append v [] vs = refl
elem_append v (u ∷ us) vs = rw (elem_append v us vs) (sym (or_assoc (eqb v u) (elem v us) (elem v vs)))

pub elem_head : (v : ℕ) (us : List ℕ) → elem v (v ∷ us) ≡ true
unfolding elem
elem_head v us = rw (eq-eqb v v refl)

pub elem_cons : (v u : ℕ) (us : List ℕ) → v ≢ u → elem v (u ∷ us) ≡ elem v us
unfolding elem
elem_cons v u us n = rw (ne_eqb v u n)

-- listed again it stays where it is, and a new one comes last
pub list_again : (v : ℕ) (us : List ℕ) → elem v us ≡ true → list v us ≡ us
unfolding list
list_again v us h = rw h

pub list_new : (v : ℕ) (us : List ℕ) → elem v us ≡ false → list v us ≡ us ++ v ∷ []
unfolding list
list_new v us h = rw h

pub elem_list : (v u : ℕ) (us : List ℕ) → elem v (list u us) ≡ (elem v us || eqb v u)
unfolding elem
elem_list v u us =
    by_test (elem u us)
    (λ h. rw (list_again u us h) (by_test (eqb v u) (λ e. let p : elem v us ≡ true = rw (eqb-true v u e) h in rw (e, p)) (λ e. rw e (sym (or-false (elem v us))))))
    (λ h. rw (list_new u us h) (elem_append v us (u ∷ []) ∙ ap (λ b. elem v us || b) (or-false (eqb v u))))

pub elem_list_same : (v : ℕ) (us : List ℕ) → elem v (list v us) ≡ true
elem_list_same v us = elem_list v v us ∙ rw (eq-eqb v v refl) (or-true (elem v us))

pub elem_list_other : (v u : ℕ) (us : List ℕ) → v ≢ u → elem v (list u us) ≡ elem v us
elem_list_other v u us n = elem_list v u us ∙ rw (ne_eqb v u n) (or-false (elem v us))

pub elem_list_keeps : (v u : ℕ) (us : List ℕ) → elem v us ≡ true → elem v (list u us) ≡ true
elem_list_keeps v u us h = elem_list v u us ∙ rw h

distinct_last : (us : List ℕ) (v : ℕ) → elem v us ≡ false → Distinct us → Distinct (us ++ v ∷ [])
unfolding Distinct elem
distinct_last [] v h d = (refl, tt)
distinct_last (u ∷ us) v h d =
    by_test (eqb v u) (λ e. absurd (never_both (rw e) h))
    (λ e. (elem_append u us (v ∷ []) ∙ rw (d.0, ne_eqb u v (λ p. eqb-false v u e (sym p))), distinct_last us v (rw e at h) d.1))

pub distinct_list : (v : ℕ) (us : List ℕ) → Distinct us → Distinct (list v us)
distinct_list v us d = by_test (elem v us) (λ h. rw (list_again v us h) d) (λ h. rw (list_new v us h) (distinct_last us v h d))

-- ---- one vector's part of what happens

pub own_append : (v : ℕ) (a b : List Happening) → own v (a ++ b) ≡ own v a ++ own v b
unfolding own
own_append v [] b = refl
own_append v (at u ∷ a) b = ap (λ h. began u ∷ h) (own_append v a b)
own_append v (single i x p ∷ a) b = own_append v a b
own_append v (of u i ∷ a) b = by_test (eqb v u) (λ q. rw q (ap (λ h. i ∷ h) (own_append v a b))) (λ q. rw q (own_append v a b))
own_append v (ends ∷ a) b = ap (λ h. over ∷ h) (own_append v a b)

pub own_same : (v : ℕ) (is : List Item) → own v (map (of v) is) ≡ is
unfolding own
own_same v [] = refl
own_same v (i ∷ is) = rw (eq-eqb v v refl) (ap (λ h. i ∷ h) (own_same v is))

pub own_other : (v u : ℕ) (is : List Item) → v ≢ u → own v (map (of u) is) ≡ []
unfolding own
own_other v u [] n = refl
own_other v u (i ∷ is) n = rw (ne_eqb v u n) (own_other v u is n)

-- ---- the step's end: a listed vector ends as it would alone, another is left as it is

clear_once : (b : Bool) (v : Vec) → cond b (cleared (cleared v)) (cleared v) ≡ cleared v
clear_once true v = cleared_twice v
clear_once false v = refl

pub end_vecs : (vs : List ℕ) (vecs : ℕ → Vec) (v : ℕ) → (end_all vs vecs).1 v ≡ cond (elem v vs) (cleared (vecs v)) (vecs v)
unfolding end_all elem
end_vecs [] vecs v = refl
end_vecs (u ∷ vs) vecs v =
    let e = (fires (any (vecs u).marks) ended (vecs u)).1 in
    let rest = end_vecs vs (with vecs u e) v in
    by_test (eqb v u)
    (λ q. let now : with vecs u e v ≡ cleared (vecs v) = rw (eqb-true v u q) (with_same vecs u e ∙ end_clears ended (vecs u)) in rw q (rest ∙ rw now (clear_once (elem v vs) (vecs v))))
    (λ q. let now : with vecs u e v ≡ vecs v = with_other vecs u e v (eqb-false v u q) in rw q (rest ∙ rw now))

quiet_end : (b m : Bool) (c : Cause) (v : Vec) → m ≡ false → (fires (b && m) c v).0 ≡ []
unfolding fires
quiet_end b m c v h = rw (h, and-false b)

pub end_own : (vs : List ℕ) (vecs : ℕ → Vec) (v : ℕ) → own v (end_all vs vecs).0 ≡ (fires (elem v vs && any (vecs v).marks) ended (vecs v)).0
unfolding end_all elem own fires
end_own [] vecs v = refl
end_own (u ∷ vs) vecs v =
    let e = fires (any (vecs u).marks) ended (vecs u) in
    let rest = end_own vs (with vecs u e.1) v in
    own_append v (map (of u) e.0) _ ∙
    by_test (eqb v u)
    (λ q.
    let p : v ≡ u = eqb-true v u q in
    let now : any (with vecs u e.1 v).marks ≡ false = rw (p, with_same) (fired_any _ ended (vecs u) refl) in
    rw (q, rest, quiet_end _ _ ended _ now) (rw p (rw own_same (append-nil e.0))))
    (λ q.
    let n = eqb-false v u q in
    rw (q, own_other v u e.0 n, rest, with_other vecs u e.1 v n))

pub sound_begin : (t : Tables) → Sound t (begin t)
unfolding begin fresh Distinct
sound_begin t = record {
  distinct = tt;
  covers = λ v h. absurd (never_both h (any_clear (width t v)));
  wide = λ v. wide_fresh (width t v);
}

sound_vector : (early : ℕ → Bool) (t : Tables) (s : State) (v : ℕ) (x : Write) → Sound t s → Sound t (to_vector early t s v x).1
unfolding to_vector
sound_vector early t s v x o =
    let new = (act (early (width t v)) (s.vecs v) (put x)).1 in
    record {
      distinct = distinct_list v s.listed o.distinct;
      covers = λ u h. by_test (eqb u v) (λ q. rw (eqb-true u v q) (elem_list_same v s.listed)) (λ q. elem_list_keeps u v s.listed (o.covers u (rw (with_other s.vecs v new u (eqb-false u v q)) at h)));
      wide = λ u.
          by_test (eqb u v) (λ q. rw (eqb-true u v q, with_same) (wide_act (width t v) _ (s.vecs v) (put x) (o.wide v)))
          (λ q. rw (with_other s.vecs v new u (eqb-false u v q)) (o.wide u));
    }

sound_toward : (early : ℕ → Bool) (t : Tables) (s : State) (n i x p : ℕ) → Sound t s → Sound t (toward early t s n i x p).1
unfolding toward
sound_toward early t s zero i x p o = o
sound_toward early t s (suc v) i x p o = sound_vector early t s v (bit_write t v i x p) o

pub covered : (t : Tables) (s : State) → Sound t s → (v : ℕ) → (elem v s.listed && any (s.vecs v).marks) ≡ any (s.vecs v).marks
covered t s o v = by_test (any (s.vecs v).marks) (λ h. rw (h, o.covers v h)) (λ h. rw h (and-false (elem v s.listed)))

-- a step's end leaves no marks
pub end_unmarked : (t : Tables) (s : State) → Sound t s → (v : ℕ) → (end_all s.listed s.vecs).1 v ≡ cleared (s.vecs v)
end_unmarked t s o v =
    end_vecs s.listed s.vecs v ∙ by_test (elem v s.listed) (λ h. rw h)
    (λ h. rw h (sym (cleared_unmarked (s.vecs v) (not_true_is_false (λ m. never_both (o.covers v m) h)))))

pub sound_does : (early : ℕ → Bool) (t : Tables) (s : State) (a : Act) → Sound t s → Sound t (does early t s a).1
unfolding does Distinct
sound_does early t s (time u) o = o
sound_does early t s (write i x p) o = sound_toward early t s (t.vector i) i x p o
sound_does early t s step_end o = record {
  distinct = tt;
  covers = λ v h. absurd (never_both h (rw (end_unmarked t s o v) (cleared_any (s.vecs v))));
  wide = λ v. rw (end_unmarked t s o v) (wide_cleared (width t v) (s.vecs v) (o.wide v));
}

pub sound_after : (early : ℕ → Bool) (t : Tables) (s : State) (acts : List Act) → Sound t s → Sound t (state_after early t s acts)
unfolding state_after
sound_after early t s [] o = o
sound_after early t s (a ∷ acts) o = sound_after early t (does early t s a).1 acts (sound_does early t s a o)

pub after_append : (early : ℕ → Bool) (t : Tables) (s : State) (a b : List Act) → state_after early t s (a ++ b) ≡ state_after early t (state_after early t s a) b
unfolding state_after
after_append early t s [] b = refl
after_append early t s (x ∷ a) b = after_append early t (does early t s x).1 a b

pub happens_append : (early : ℕ → Bool) (t : Tables) (s : State) (a b : List Act) → happens early t s (a ++ b) ≡ happens early t s a ++ happens early t (state_after early t s a) b
unfolding happens state_after
happens_append early t s [] b = refl
happens_append early t s (x ∷ a) b = rw (happens_append early t (does early t s x).1 a b) (sym (append_assoc (does early t s x).0 _ _))

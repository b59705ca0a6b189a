-- Every event but a time owns a write: acts make at most as many such events as there are writes among them, each as
-- wide as its signal.
-- Assumes nothing.
use Prim.Native.Nat.{ℕ, zero, suc, ◌+◌, ◌≤◌}
use Rattle.std.specs.Prelude.{◌≡◌, Bool, cond, ◌&&◌, length, eqb}
use Rattle.std.proofs.Math.Path.{refl}
use Rattle.std.proofs.Common.{sym, ap}
use Rattle.std.proofs.Math.Bool.{true, false}
use Rattle.std.proofs.lemmas.Bool.{false≢true}
use mathlib.Core.List.{List, [], ◌∷◌, ◌++◌, map}
use native.Mathlib.Omega.{arith}
use borrow.Author.Tests.{eqb-true, eqb-false}
use Rattle.slices.specs.Choice.{cond_ind}
use Rattle.rules.specs.Vector.{Write, put, Cause, rewritten, complete, ended, Item, began, wrote, shown, over, Vec, all, any, fires, clashes, stored, act}
use Rattle.rules.specs.Vector.Laws.{Wide}
use Rattle.rules.proofs.Vector.Laws.{by_test, never_both, not_true_is_false, any_none, wide_stored, wide_fires, cleared_any, clashed, fired_any}
use Rattle.rules.specs.Gather.{Tables, width, Act, time, write, step_end, Happening, at, single, of, ends, State, begin, with, elem, end_all, bit_write, to_vector, toward, does, happens}
use Rattle.rules.specs.Gather.Laws.{Distinct, Sound}
use Rattle.rules.proofs.Gather.Laws.{with_same, with_other, list_again, list_new, sound_begin, sound_does}

-- ---- counts

unfoldable pub writes_in : List Act → ℕ
writes_in [] = 0
writes_in (time u ∷ l) = writes_in l
writes_in (write i x p ∷ l) = 1 + writes_in l
writes_in (step_end ∷ l) = writes_in l

-- the events that are no times
unfoldable pub shown_in : List Happening → ℕ
shown_in [] = 0
shown_in (at u ∷ h) = shown_in h
shown_in (single i x p ∷ h) = 1 + shown_in h
shown_in (of v (began u) ∷ h) = shown_in h
shown_in (of v (wrote x) ∷ h) = shown_in h
shown_in (of v (shown c l) ∷ h) = 1 + shown_in h
shown_in (of v over ∷ h) = shown_in h
shown_in (ends ∷ h) = shown_in h

-- .. each as wide as its vector
unfoldable pub Sized : Tables → List Happening → Type 0
Sized t [] = Unit {0}
Sized t (at u ∷ h) = Sized t h
Sized t (single i x p ∷ h) = Sized t h
Sized t (of v (began u) ∷ h) = Sized t h
Sized t (of v (wrote x) ∷ h) = Sized t h
Sized t (of v (shown c l) ∷ h) = (length l ≡ width t v) × Sized t h
Sized t (of v over ∷ h) = Sized t h
Sized t (ends ∷ h) = Sized t h

shown_append : (a b : List Happening) → shown_in (a ++ b) ≡ shown_in a + shown_in b
unfolding shown_in
shown_append [] b = omega arith
shown_append (at u ∷ a) b = shown_append a b
shown_append (single i x p ∷ a) b = omega (arith, shown_append a b)
shown_append (of v (began u) ∷ a) b = shown_append a b
shown_append (of v (wrote x) ∷ a) b = shown_append a b
shown_append (of v (shown c l) ∷ a) b = omega (arith, shown_append a b)
shown_append (of v over ∷ a) b = shown_append a b
shown_append (ends ∷ a) b = shown_append a b

module _ (t : Tables) where
  sized_append : (a b : List Happening) → Sized t a → Sized t b → Sized t (a ++ b)
  unfolding Sized
  sized_append [] b h g = g
  sized_append (at u ∷ a) b h g = sized_append a b h g
  sized_append (single i x p ∷ a) b h g = sized_append a b h g
  sized_append (of v (began u) ∷ a) b h g = sized_append a b h g
  sized_append (of v (wrote x) ∷ a) b h g = sized_append a b h g
  sized_append (of v (shown c l) ∷ a) b h g = (h.0, sized_append a b h.1 g)
  sized_append (of v over ∷ a) b h g = sized_append a b h g
  sized_append (ends ∷ a) b h g = sized_append a b h g

-- ---- one vector

-- 1 where it has marks
abbrev marked : Vec → ℕ
marked v = cond (any v.marks) 1 0

marked_most : (v : Vec) → marked v ≤ 1
marked_most v = cond_ind (any v.marks) _ _ (λ n. n ≤ 1) (λ h. omega arith) (λ h. omega arith)

marked_none : (v : Vec) → any v.marks ≡ false → marked v ≡ 0
marked_none v h = rw h

fires_once : (u : ℕ) (b : Bool) (c : Cause) (v : Vec)
    → shown_in (map (of u) (fires b c v).0) + marked (fires b c v).1 ≤ 1
unfolding fires shown_in
fires_once u true c v = rw (cleared_any v) (omega arith)
fires_once u false c v = omega (arith, marked_most v)

fires_marked : (u : ℕ) (b : Bool) (c : Cause) (v : Vec) → (b ≡ true → any v.marks ≡ true)
    → shown_in (map (of u) (fires b c v).0) ≤ marked v
unfolding fires shown_in
fires_marked u true c v h = rw (h refl) (omega arith)
fires_marked u false c v h = omega arith

clash_any : (v : Vec) (x : Write) → clashes v x ≡ true → any v.marks ≡ true
clash_any v x h = by_test (any v.marks) (λ e. e)
    (λ e. absurd (never_both (clashed v x h).0 (any_none v.marks x.bit e)))

map_append : (u : ℕ) (a b : List Item) → map (of u) (a ++ b) ≡ map (of u) a ++ map (of u) b
map_append u [] b = refl
map_append u (i ∷ a) b = ap (λ l. of u i ∷ l) (map_append u a b)

-- a write makes one event more than it leaves marks less
put_shown : (u : ℕ) (early : Bool) (v : Vec) (x : Write)
    → shown_in (map (of u) (act early v (put x)).0) + marked (act early v (put x)).1 ≤ 1 + marked v
unfolding act shown_in
put_shown u early v x =
    let a = fires (clashes v x) rewritten v in
    let b = stored a.1 x in
    let c = fires (early && all b.marks) complete b in
    let p = fires_marked u (clashes v x) rewritten v (clash_any v x) in
    let q = fires_once u (early && all b.marks) complete b in
    rw (map_append u a.0 (wrote x ∷ c.0), shown_append (map (of u) a.0) (of u (wrote x) ∷ map (of u) c.0))
    (omega arith)

module _ (t : Tables) (u : ℕ) where
  fires_sized : (b : Bool) (c : Cause) (v : Vec) → Wide (width t u) v → Sized t (map (of u) (fires b c v).0)
  unfolding fires Sized Wide
  fires_sized true c v w = (w.0, tt)
  fires_sized false c v w = tt

  put_sized : (early : Bool) (v : Vec) (x : Write) → Wide (width t u) v
      → Sized t (map (of u) (act early v (put x)).0)
  unfolding act Sized
  put_sized early v x w =
      let a = fires (clashes v x) rewritten v in
      let b = stored a.1 x in
      let wide = wide_stored (width t u) a.1 x (wide_fires (width t u) (clashes v x) rewritten v w) in
      rw (map_append u a.0 (wrote x ∷ (fires (early && all b.marks) complete b).0))
      (sized_append t (map (of u) a.0) _ (fires_sized (clashes v x) rewritten v w)
      (fires_sized (early && all b.marks) complete b wide))

-- ---- all vectors

-- how many of those that are listed have marks
unfoldable pending : (ℕ → Vec) → List ℕ → ℕ
pending vecs [] = 0
pending vecs (v ∷ vs) = marked (vecs v) + pending vecs vs

pending_append : (vecs : ℕ → Vec) (a b : List ℕ) → pending vecs (a ++ b) ≡ pending vecs a + pending vecs b
unfolding pending
pending_append vecs [] b = omega arith
pending_append vecs (v ∷ a) b = omega (arith, pending_append vecs a b)

pending_last : (vecs : ℕ → Vec) (u : ℕ) → pending vecs (u ∷ []) ≡ marked (vecs u)
unfolding pending
pending_last vecs u = omega arith

module _ (vecs : ℕ → Vec) (v : ℕ) (x : Vec) where
  abbrev new : ℕ → Vec
  new = with vecs v x

  pending_other : (vs : List ℕ) → elem v vs ≡ false → pending new vs ≡ pending vecs vs
  unfolding pending elem
  pending_other [] h = refl
  pending_other (u ∷ vs) h =
      by_test (eqb v u) (λ q. absurd (never_both (rw q) h))
      (λ q. rw (with_other vecs v x u (λ e. eqb-false v u q (sym e)), pending_other vs (rw q at h)))

  pending_one : (vs : List ℕ) → Distinct vs → elem v vs ≡ true
      → pending new vs + marked (vecs v) ≡ pending vecs vs + marked x
  unfolding pending Distinct elem
  pending_one [] d h = absurd (false≢true h)
  pending_one (u ∷ vs) d h =
      by_test (eqb v u)
      (λ q.
      let p : v ≡ u = eqb-true v u q in
      let e : marked (new u) ≡ marked x = rw (← p, with_same vecs v x) in
      let f : marked (vecs u) ≡ marked (vecs v) = rw p in
      let g : pending new vs ≡ pending vecs vs = pending_other vs (rw p d.0) in
      omega arith)
      (λ q.
      let e : marked (new u) ≡ marked (vecs u) = rw (with_other vecs v x u (λ z. eqb-false v u q (sym z))) in
      let g = pending_one vs d.1 (rw q at h) in
      omega arith)

  pending_less : marked x ≡ 0 → (vs : List ℕ) → pending new vs ≤ pending vecs vs
  unfolding pending
  pending_less m [] = omega arith
  pending_less m (u ∷ vs) = by_test (eqb u v)
      (λ q. let e : marked (new u) ≡ 0 = rw (eqb-true u v q, with_same vecs v x) m in omega (arith, pending_less m vs))
      (λ q. let e : marked (new u) ≡ marked (vecs u) =
      rw (with_other vecs v x u (eqb-false u v q)) in omega (arith, pending_less m vs))

-- ---- what the acts make

end_shown : (vs : List ℕ) (vecs : ℕ → Vec) → shown_in (end_all vs vecs).0 ≤ pending vecs vs
unfolding end_all pending shown_in
end_shown [] vecs = omega arith
end_shown (v ∷ vs) vecs =
    let e = fires (any (vecs v).marks) ended (vecs v) in
    let a = fires_marked v (any (vecs v).marks) ended (vecs v) (λ h. h) in
    let b = end_shown vs (with vecs v e.1) in
    let m : marked e.1 ≡ 0 = marked_none e.1 (fired_any (any (vecs v).marks) ended (vecs v) refl) in
    let l = pending_less vecs v e.1 m vs in
    rw (shown_append (map (of v) e.0) (end_all vs (with vecs v e.1)).0) (omega arith)

module _ (early : ℕ → Bool) (t : Tables) where
  abbrev waiting : State → ℕ
  waiting s = pending s.vecs s.listed

  vector_shown : (s : State) (v : ℕ) (x : Write) → Sound t s
      → shown_in (to_vector early t s v x).0 + waiting (to_vector early t s v x).1 ≤ 1 + waiting s
  unfolding to_vector
  vector_shown s v x o =
      let r = act (early (width t v)) (s.vecs v) (put x) in
      let a = put_shown v (early (width t v)) (s.vecs v) x in
      by_test (elem v s.listed)
      (λ h.
      let b = pending_one s.vecs v r.1 s.listed o.distinct h in
      rw (list_again v s.listed h) (omega arith))
      (λ h.
      let m : marked (s.vecs v) ≡ 0 =
      marked_none (s.vecs v) (not_true_is_false (λ z. never_both (o.covers v z) h)) in
      let b = pending_other s.vecs v r.1 s.listed h in
      let d = pending_append (with s.vecs v r.1) s.listed (v ∷ []) in
      let e = pending_last (with s.vecs v r.1) v in
      let f : marked (with s.vecs v r.1 v) ≡ marked r.1 = rw (with_same s.vecs v r.1) in
      rw (list_new v s.listed h) (omega arith))

  does_shown : (s : State) (a : Act) → Sound t s
      → shown_in (does early t s a).0 + waiting (does early t s a).1 ≤ writes_in (a ∷ []) + waiting s
  unfolding does toward shown_in writes_in pending
  does_shown s (time u) o = omega arith
  does_shown s (write i x p) o = to (t.vector i)
    where
      to : (n : ℕ) → shown_in (toward early t s n i x p).0 + waiting (toward early t s n i x p).1 ≤ 1 + waiting s
      to zero = omega arith
      to (suc v) = vector_shown s v (bit_write t v i x p) o
  does_shown s step_end o =
      rw (shown_append (end_all s.listed s.vecs).0 (ends ∷ [])) (omega (arith, end_shown s.listed s.vecs))

  writes_cons : (a : Act) (l : List Act) → writes_in (a ∷ l) ≡ writes_in (a ∷ []) + writes_in l
  unfolding writes_in
  writes_cons (time u) l = omega arith
  writes_cons (write i x p) l = omega arith
  writes_cons step_end l = omega arith

  happens_shown : (s : State) (l : List Act) → Sound t s → shown_in (happens early t s l) ≤ writes_in l + waiting s
  unfolding happens shown_in writes_in
  happens_shown s [] o = omega arith
  happens_shown s (a ∷ l) o =
      let b = does_shown s a o in
      let r = happens_shown (does early t s a).1 l (sound_does early t s a o) in
      rw (shown_append (does early t s a).0 (happens early t (does early t s a).1 l))
      (omega (arith, writes_cons a l))

  -- at most as many events, times aside, as there are writes
  pub few_shown : (l : List Act) → shown_in (happens early t (begin t) l) ≤ writes_in l
  unfolding begin pending
  few_shown l = omega (arith, happens_shown (begin t) l (sound_begin t))

  -- ---- and each as wide as its vector

  end_sized : (vs : List ℕ) (vecs : ℕ → Vec) → ((u : ℕ) → Wide (width t u) (vecs u)) → Sized t (end_all vs vecs).0
  unfolding end_all Sized
  end_sized [] vecs w = tt
  end_sized (v ∷ vs) vecs w =
      let e = fires (any (vecs v).marks) ended (vecs v) in
      sized_append t (map (of v) e.0) _ (fires_sized t v (any (vecs v).marks) ended (vecs v) (w v))
      (end_sized vs (with vecs v e.1) (λ u.
      by_test (eqb u v) (λ q. rw (eqb-true u v q, with_same vecs v e.1)
      (wide_fires (width t v) _ ended (vecs v) (w v)))
      (λ q. rw (with_other vecs v e.1 u (eqb-false u v q)) (w u))))

  does_sized : (s : State) (a : Act) → Sound t s → Sized t (does early t s a).0
  unfolding does toward Sized to_vector
  does_sized s (time u) o = tt
  does_sized s (write i x p) o = to (t.vector i)
    where
      to : (n : ℕ) → Sized t (toward early t s n i x p).0
      to zero = tt
      to (suc v) = put_sized t v (early (width t v)) (s.vecs v) (bit_write t v i x p) (o.wide v)
  does_sized s step_end o =
      sized_append t (end_all s.listed s.vecs).0 (ends ∷ []) (end_sized s.listed s.vecs o.wide) tt

  happens_sized : (s : State) (l : List Act) → Sound t s → Sized t (happens early t s l)
  unfolding happens Sized
  happens_sized s [] o = tt
  happens_sized s (a ∷ l) o =
      sized_append t (does early t s a).0 _ (does_sized s a o)
      (happens_sized (does early t s a).1 l (sound_does early t s a o))

  pub all_sized : (l : List Act) → Sized t (happens early t (begin t) l)
  all_sized l = happens_sized (begin t) l (sound_begin t)

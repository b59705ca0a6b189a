-- Where events are made: one by rule (a) right before a write of its vector, one by rule (c) right behind one,
-- one at a step's end with nothing but events up to that end.
-- Assumes nothing.
use Prim.Native.Nat.{ℕ, zero, suc}
use Rattle.std.specs.Prelude.{◌≡◌, refl, ◌⊎◌, Bool, true, false}
use Rattle.std.proofs.Common.{ap, inl, inr, ⊎_elim}
use Rattle.std.proofs.Math.Option.{Option, none, some, none-ne-some, some-injective}
use mathlib.Core.List.{List, [], ◌∷◌, ◌++◌, map, append_assoc}
use Rattle.rules.specs.Vector.{Write, rewritten, complete, ended, began, wrote, shown, over, Vec, any, fires, act}
use Rattle.rules.specs.Gather.{Tables, Act, time, write, step_end, Happening, at, single, of, ends, State, with, end_all, bit_write, to_vector, toward, does, happens}
use Rattle.demand3_bytes.specs.Causes.{Next, Prompt, UntilEnd}

-- ---- what the gatherer does is prompt

prompt_put : (v : ℕ) (a : Bool) (x : Vec) (w : Write) (c : Bool) (y : Vec) (rest : List Happening) (q : Option ℕ)
    → ((o : Option ℕ) → Prompt o rest)
    → Prompt q (map (of v) ((fires a rewritten x).0 ++ wrote w ∷ (fires c complete y).0) ++ rest)
unfolding Prompt fires
prompt_put v true x w true y rest q r = ((w, _, refl), (refl, r none))
prompt_put v true x w false y rest q r = ((w, _, refl), r (some v))
prompt_put v false x w true y rest q r = (refl, r none)
prompt_put v false x w false y rest q r = r (some v)

end_one : (v : ℕ) (b : Bool) (x : Vec) (rest : List Happening) → UntilEnd rest → ((q : Option ℕ) → Prompt q rest)
    → UntilEnd (map (of v) (fires b ended x).0 ++ rest) ×
    ((q : Option ℕ) → Prompt q (map (of v) (fires b ended x).0 ++ rest))
unfolding Prompt UntilEnd fires
end_one v true x rest u r = (u, λ q. (u, r none))
end_one v false x rest u r = (u, r)

prompt_end : (vs : List ℕ) (vecs : ℕ → Vec) (rest : List Happening) → ((q : Option ℕ) → Prompt q rest)
    → UntilEnd ((end_all vs vecs).0 ++ ends ∷ rest) × ((q : Option ℕ) → Prompt q ((end_all vs vecs).0 ++ ends ∷ rest))
unfolding Prompt UntilEnd end_all
prompt_end [] vecs rest r = (tt, λ q. r none)
prompt_end (v ∷ vs) vecs rest r =
    let e = fires (any (vecs v).marks) ended (vecs v) in
    let k = prompt_end vs (with vecs v e.1) rest r in
    rw append_assoc (end_one v (any (vecs v).marks) (vecs v) _ k.0 k.1)

module _ (early : ℕ → Bool) (t : Tables) where
  prompt_toward : (s : State) (n i x p : ℕ) (rest : List Happening) (q : Option ℕ) → ((o : Option ℕ) → Prompt o rest)
      → Prompt q ((toward early t s n i x p).0 ++ rest)
  unfolding toward to_vector act Prompt
  prompt_toward s zero i x p rest q r = r none
  prompt_toward s (suc v) i x p rest q r = prompt_put v _ (s.vecs v) (bit_write t v i x p) _ _ rest q r

  pub prompt : (s : State) (acts : List Act) (q : Option ℕ) → Prompt q (happens early t s acts)
  unfolding happens does Prompt
  prompt s [] q = tt
  prompt s (time u ∷ acts) q = prompt (does early t s (time u)).1 acts none
  prompt s (write i x p ∷ acts) q = prompt_toward s (t.vector i) i x p _ q (λ o. prompt (does early t s (write i x p)).1 acts o)
  prompt s (step_end ∷ acts) q = rw append_assoc ((prompt_end s.listed s.vecs _ (λ o. prompt (does early t s step_end).1 acts o)).1 q)

-- ---- at an event

pub at_end : (q : Option ℕ) (a : List Happening) (v : ℕ) (l : List ℕ) (b : List Happening)
    → Prompt q (a ++ of v (shown ended l) ∷ b) → UntilEnd b
unfolding Prompt
at_end q [] v l b r = r.0
at_end q (at u ∷ a) v l b r = at_end none a v l b r
at_end q (single i x p ∷ a) v l b r = at_end none a v l b r
at_end q (of w (began u) ∷ a) v l b r = at_end none a v l b r
at_end q (of w (wrote x) ∷ a) v l b r = at_end (some w) a v l b r
at_end q (of w (shown rewritten m) ∷ a) v l b r = at_end none a v l b r.1
at_end q (of w (shown complete m) ∷ a) v l b r = at_end none a v l b r.1
at_end q (of w (shown ended m) ∷ a) v l b r = at_end none a v l b r.1
at_end q (of w over ∷ a) v l b r = at_end none a v l b r
at_end q (ends ∷ a) v l b r = at_end none a v l b r

-- the last happening is a write of the vector
abbrev Behind : ℕ → List Happening → Type 0
Behind v a = (before : List Happening) × (x : Write) × (a ≡ before ++ of v (wrote x) ∷ [])

-- .. or there is none, and the vector was written right before
abbrev Either : Option ℕ → ℕ → List Happening → Type 0
Either q v a = ((q ≡ some v) × (a ≡ [])) ⊎ Behind v a

later : (x : Happening) (v : ℕ) (a : List Happening) → Behind v a → Behind v (x ∷ a)
later x v a (b, w, e) = (x ∷ b, w, ap (λ l. x ∷ l) e)

passed : (x : Happening) (v : ℕ) (a : List Happening) → Either none v a → Behind v (x ∷ a)
passed x v a (inl (e, f)) = absurd (none-ne-some v e)
passed x v a (inr k) = later x v a k

written : (u : ℕ) (x : Write) (v : ℕ) (a : List Happening) → Either (some u) v a → Behind v (of u (wrote x) ∷ a)
written u x v a (inl (e, f)) = let d = some-injective u v e in ([], x, rw (d, f))
written u x v a (inr k) = later (of u (wrote x)) v a k

complete_from : (q : Option ℕ) (a : List Happening) (v : ℕ) (l : List ℕ) (b : List Happening)
    → Prompt q (a ++ of v (shown complete l) ∷ b) → Either q v a
unfolding Prompt
complete_from q [] v l b r = inl (r.0, refl)
complete_from q (at u ∷ a) v l b r = inr (passed _ v a (complete_from none a v l b r))
complete_from q (single i x p ∷ a) v l b r = inr (passed _ v a (complete_from none a v l b r))
complete_from q (of w (began u) ∷ a) v l b r = inr (passed _ v a (complete_from none a v l b r))
complete_from q (of w (wrote x) ∷ a) v l b r = inr (written w x v a (complete_from (some w) a v l b r))
complete_from q (of w (shown rewritten m) ∷ a) v l b r = inr (passed _ v a (complete_from none a v l b r.1))
complete_from q (of w (shown complete m) ∷ a) v l b r = inr (passed _ v a (complete_from none a v l b r.1))
complete_from q (of w (shown ended m) ∷ a) v l b r = inr (passed _ v a (complete_from none a v l b r.1))
complete_from q (of w over ∷ a) v l b r = inr (passed _ v a (complete_from none a v l b r))
complete_from q (ends ∷ a) v l b r = inr (passed _ v a (complete_from none a v l b r))

pub at_complete : (a : List Happening) (v : ℕ) (l : List ℕ) (b : List Happening)
    → Prompt none (a ++ of v (shown complete l) ∷ b) → Behind v a
at_complete a v l b r =
    ⊎_elim (λ (k : (none ≡ some v) × (a ≡ [])). absurd (none-ne-some v k.0)) (λ (k : Behind v a). k)
    (complete_from none a v l b r)

pub at_rewrite : (q : Option ℕ) (a : List Happening) (v : ℕ) (l : List ℕ) (b : List Happening)
    → Prompt q (a ++ of v (shown rewritten l) ∷ b) → Next v b
unfolding Prompt
at_rewrite q [] v l b r = r.0
at_rewrite q (at u ∷ a) v l b r = at_rewrite none a v l b r
at_rewrite q (single i x p ∷ a) v l b r = at_rewrite none a v l b r
at_rewrite q (of w (began u) ∷ a) v l b r = at_rewrite none a v l b r
at_rewrite q (of w (wrote x) ∷ a) v l b r = at_rewrite (some w) a v l b r
at_rewrite q (of w (shown rewritten m) ∷ a) v l b r = at_rewrite none a v l b r.1
at_rewrite q (of w (shown complete m) ∷ a) v l b r = at_rewrite none a v l b r.1
at_rewrite q (of w (shown ended m) ∷ a) v l b r = at_rewrite none a v l b r.1
at_rewrite q (of w over ∷ a) v l b r = at_rewrite none a v l b r
at_rewrite q (ends ∷ a) v l b r = at_rewrite none a v l b r

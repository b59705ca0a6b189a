-- The vectors that are listed: one more at the end, one less at the front, and never more than there are vectors.
-- Assumes nothing.
use Rattle.std.specs.Prelude.{◌≡◌, Bool, true, false, cond, ◌||◌, List, [], ◌∷◌, ◌++◌, ◌⊎◌, eqb}
use Rattle.std.proofs.Math.Path.{refl}
use Rattle.std.proofs.Common.{sym, ap, ◌∙◌, true≢false, eq-or-lt_of_le, le_of_suc-le-suc, add-one, eq-eqb, ne_eqb, length-append, get_or-set_same, get_or-set_other}
use Prim.Native.Nat.{ℕ, zero, suc, ◌+◌, ◌*◌, ◌%◌, ◌<◌, ◌≤◌}
use Rattle.std.proofs.Math.Logic.{⊎_elim}
use native.Mathlib.Omega.{arith}
use Rattle.std.proofs.lemmas.Bool.{eqb-false}
use Rattle.std.proofs.Math.ListN.{length, get_or, length-set, get_or-append}
use Rattle.std.proofs.Math.Seq.{get_or-append_seam, set_out}
use Rattle.slices.specs.Choice.{tri, apart, le_or_lt}
use Rattle.rules.specs.Gather.{elem}
use Rattle.tables.specs.Layout.{Layout}
use Rattle.vecmarks.specs.Info.{num}
use Rattle.vecstarts.specs.Numbers.{start_in, Started, listed_in, listing}
use Rattle.vecbuffer.specs.Stands.{Distinct, Listed}

-- ---- in a list

or_false : (a b : Bool) → (a || b) ≡ false → (a ≡ false) × (b ≡ false)
or_false true b e = absurd (true≢false e)
or_false false b e = (refl, e)

eqb_flip : (a b : ℕ) → eqb a b ≡ false → eqb b a ≡ false
eqb_flip a b e = ne_eqb b a (λ d. eqb-false a b e (sym d))

pub elem_last : (u v : ℕ) (us : List ℕ) → elem u (us ++ v ∷ []) ≡ cond (eqb u v) true (elem u us)
unfolding elem
elem_last u v [] = go (eqb u v)
  where
    go : (m : Bool) → (m || false) ≡ cond m true false
    go true = refl
    go false = refl
elem_last u v (w ∷ us) = rw (elem_last u v us) (go (eqb u w) (eqb u v) (elem u us))
  where
    go : (a b c : Bool) → (a || cond b true c) ≡ cond b true (a || c)
    go true true c = refl
    go true false c = refl
    go false true c = refl
    go false false c = refl

distinct_last : (v : ℕ) (us : List ℕ) → Distinct us → elem v us ≡ false → Distinct (us ++ v ∷ [])
unfolding Distinct elem
distinct_last v [] d e = (refl, tt)
distinct_last v (w ∷ us) d e =
    let o = or_false (eqb v w) (elem v us) e in
    (elem_last w v us ∙ rw (eqb_flip v w o.0) d.0, distinct_last v us d.1 o.1)

-- ---- as many are listed as have the flag

tally : (ℕ → Bool) → ℕ → ℕ
tally f zero = 0
tally f (suc k) = tally f k + num (f k)

num_most : (b : Bool) → num b ≤ 1
num_most true = omega arith
num_most false = omega arith

tally_most : (f : ℕ → Bool) (k : ℕ) → tally f k ≤ k
unfolding tally
tally_most f zero = omega arith
tally_most f (suc k) = omega (arith, tally_most f k, num_most (f k))

tally_room : (f : ℕ → Bool) (k v : ℕ) → v < k → f v ≡ false → tally f k < k
unfolding tally
tally_room f zero v o e = omega arith
tally_room f (suc k) v o e =
    ⊎_elim (λ (q : v ≡ k). let z : num (f k) ≡ 0 = rw (← q, e) in omega (arith, tally_most f k))
    (λ (q : v < k). omega (arith, tally_room f k v q e, num_most (f k)))
    (eq-or-lt_of_le (le_of_suc-le-suc o))

tally_none : (k : ℕ) → tally (λ u. false) k ≡ 0
unfolding tally
tally_none zero = refl
tally_none (suc k) = omega (arith, tally_none k)

tally_same : (f g : ℕ → Bool) (k : ℕ) → ((i : ℕ) → i < k → g i ≡ f i) → tally g k ≡ tally f k
unfolding tally
tally_same f g zero h = refl
tally_same f g (suc k) h = rw (tally_same f g k (λ i o. h i (omega arith)), h k (omega arith))

-- one flag more
tally_more : (f g : ℕ → Bool) (k v : ℕ) → v < k → f v ≡ false → g v ≡ true → ((i : ℕ) → (i ≡ v → ⊥) → g i ≡ f i) → tally g k ≡ tally f k + 1
unfolding tally
tally_more f g zero v o e d h = omega arith
tally_more f g (suc k) v o e d h =
    ⊎_elim (λ (q : v ≡ k).
    let a : num (f k) ≡ 0 = rw (← q, e) in
    let b : num (g k) ≡ 1 = rw (← q, d) in
    omega (arith, tally_same f g k (λ i u. h i (λ z. omega arith))))
    (λ (q : v < k). omega (arith, tally_more f g k v q e d h, ap num (h k (λ z. omega arith))))
    (eq-or-lt_of_le (le_of_suc-le-suc o))

tally_listed : (n : ℕ) (us : List ℕ) → Distinct us → ((j : ℕ) → j < length us → get_or us j 0 < n) → tally (λ u. elem u us) n ≡ length us
unfolding elem Distinct
tally_listed n [] d k = tally_none n
tally_listed n (w ∷ us) d k =
    tally_more (λ u. elem u us) (λ u. eqb u w || elem u us) n w (k 0 (omega arith)) d.0 (rw (eq-eqb w w refl)) (λ i o. rw (ne_eqb i w o))
    ∙ rw (tally_listed n us d.1 (λ j o. k (suc j) (omega arith))) (omega arith)

-- ---- the numbers

module _ (nums : List ℕ) (n v : ℕ) where
  length_listing : length (listing nums n v) ≡ length nums
  unfolding listing
  length_listing = length-set nums n _

  -- listing leaves every start
  low_listing : (i : ℕ) → get_or (listing nums n v) i 0 % 65536 ≡ get_or nums i 0 % 65536
  unfolding listing
  low_listing i =
      ⊎_elim (λ (e : i ≡ n). rw e (⊎_elim (λ (o : length nums ≤ n). rw (set_out nums n (v * 65536 + get_or nums n 0 % 65536) o)) (λ (o : n < length nums). rw (get_or-set_same nums n (v * 65536 + get_or nums n 0 % 65536) 0 o) (omega arith)) (le_or_lt (length nums) n)))
      (λ (o : (i < n) ⊎ (n < i)). rw (get_or-set_other nums n i (v * 65536 + get_or nums n 0 % 65536) 0 (apart o)))
      (tri i n)

  -- and every other vector that is listed
  high_listing : (i : ℕ) → (i ≡ n → ⊥) → listed_in (listing nums n v) i ≡ listed_in nums i
  unfolding listing
  high_listing i o = rw (get_or-set_other nums n i (v * 65536 + get_or nums n 0 % 65536) 0 o)

  at_listing : n < length nums → listed_in (listing nums n v) n ≡ v
  unfolding listing
  at_listing h = rw (get_or-set_same nums n (v * 65536 + get_or nums n 0 % 65536) 0 h) (omega arith)

  start_listing : (w : ℕ) → start_in (listing nums n v) w ≡ start_in nums w
  unfolding start_in
  start_listing zero = refl
  start_listing (suc w) = low_listing w

  pub started_listing : {t : Layout} → Started t nums → Started t (listing nums n v)
  started_listing s = record { long = rw length_listing s.long; starts = λ w o. start_listing w ∙ s.starts w o }

module _ {t : Layout} {nums : List ℕ} {k : ℕ} {us : List ℕ} (l : Listed t nums 0 k us) where
  module _ {v : ℕ} (known : v < t.count) (new : elem v us ≡ false) where
    -- a vector that is not listed finds room in the list
    pub listed_room : k < t.count
    listed_room = omega (arith, l.many, tally_listed t.count us l.distinct l.known, tally_room (λ u. elem u us) t.count v known new)

    -- listed last
    pub listed_last : Listed t (listing nums k v) 0 (k + 1) (us ++ v ∷ [])
    listed_last =
        record {
          started = started_listing nums k v l.started;
          order = λ j o.
              ⊎_elim (λ (e : j ≡ length us). let d : 0 + j ≡ k = omega (arith, l.many) in rw (d, e, get_or-append_seam us v [] 0) (at_listing nums k v (omega (arith, listed_room, l.started.long))))
              (λ (u : j < length us). high_listing nums k v (0 + j) (λ e. omega (arith, l.many)) ∙ (l.order j u ∙ sym (get_or-append us (v ∷ []) 0 j u)))
              (one_more j o);
          many = rw length-append (omega (arith, l.many));
          most = omega (arith, listed_room);
          known = λ j o.
              ⊎_elim (λ (e : j ≡ length us). rw (e, get_or-append_seam us v [] 0) known)
              (λ (u : j < length us). rw (get_or-append us (v ∷ []) 0 j u) (l.known j u))
              (one_more j o);
          distinct = distinct_last v us l.distinct new;
        }
      where
        one_more : (j : ℕ) → j < length (us ++ v ∷ []) → (j ≡ length us) ⊎ (j < length us)
        one_more j o = eq-or-lt_of_le (le_of_suc-le-suc (rw (length-append, add-one) at o))

-- ---- a step's end takes them from the front

module _ {t : Layout} {nums : List ℕ} {i k v : ℕ} {us : List ℕ} (l : Listed t nums i k (v ∷ us)) where
  pub first_listed : listed_in nums i ≡ v
  first_listed = let e : i + 0 ≡ i = omega arith in rw e at (l.order 0 (omega arith))

  pub first_known : v < t.count
  first_known = l.known 0 (omega arith)

  pub first_new : elem v us ≡ false
  unfolding Distinct
  first_new = l.distinct.0

  pub listed_next : Listed t nums (i + 1) k us
  unfolding Distinct
  listed_next =
      record {
        started = l.started;
        order = λ j o. let e : i + 1 + j ≡ i + suc j = omega arith in rw e (l.order (suc j) (omega arith));
        many = omega (arith, l.many);
        most = l.most;
        known = λ j o. l.known (suc j) (omega arith);
        distinct = l.distinct.1;
      }

-- there is one more to take
pub some_listed : {t : Layout} {nums : List ℕ} {i k : ℕ} {us : List ℕ} → Listed t nums i k us → i < k → (ws : List ℕ) × (us ≡ listed_in nums i ∷ ws)
some_listed {us = []} l o = absurd (omega (arith, l.many))
some_listed {us = v ∷ ws} l o = (ws, ap (λ (w : ℕ). w ∷ ws) (sym (first_listed l)))

-- there is none
pub none_listed : {t : Layout} {nums : List ℕ} {i k : ℕ} {us : List ℕ} → Listed t nums i k us → k ≤ i → us ≡ []
none_listed {us = []} l o = refl
none_listed {us = v ∷ ws} l o = absurd (omega (arith, l.many))

pub listed_none : {t : Layout} {nums : List ℕ} → Started t nums → Listed t nums 0 0 []
unfolding Distinct
listed_none s = record { started = s; order = λ j o. omega arith; many = refl; most = omega arith; known = λ j o. omega arith; distinct = tt }

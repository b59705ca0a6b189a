-- The laws of the bench's places: how large their counts are, their sum, and that live sessions stay distinct.
-- Assumes nothing.
use Rattle.std.specs.Prelude.{◌≡◌, refl, Bool, false, not, ◌&&◌, List, [], ◌∷◌, ◌≢◌, ◌⊎◌, length, set, replicate, eqb}
use Rattle.std.proofs.Math.Path.{sym}
use Rattle.std.proofs.Common.{◌∙◌, ⊎_elim, arith, get_or-set_same, get_or-set_other}
use Prim.Native.Nat.{ℕ, zero, suc, ◌+◌, ◌≤◌, ◌<◌}
use Rattle.std.proofs.Math.Bool.{true}
use Rattle.std.proofs.Math.Logic.{inl, inr}
use borrow.Author.Tests.{eq-eqb, ne_eqb, eqb-true, eqb-false, ltb-true, ltb-false}
use Rattle.std.proofs.Math.ListN.{get_or, length-set, get_or-eq_default}
use Rattle.std.proofs.Math.Dec.{ltb}
use Rattle.slices.specs.Choice.{cond_ind, le_or_lt, tri}
use Rattle.sessions.specs.declared.Bench.{Bench}
use Rattle.sessions.specs.Places.{lowest, is_free, is_at, place_of, free_place, place_for, counted, dropped, empty}
pub mod Tally

-- ---- how large a count is, and a session

abbrev pub Most : ℕ → Bench → Type 0
Most m b = (i : ℕ) → get_or b.counts i 0 ≤ m

set_all : (P : ℕ → Type 0) (l : List ℕ) (k v : ℕ) → ((i : ℕ) → P (get_or l i 0)) → P v → (i : ℕ) → P (get_or (set l k v) i 0)
set_all P [] k v h n i = h i
set_all P (x ∷ l) zero v h n zero = n
set_all P (x ∷ l) zero v h n (suc i) = h (suc i)
set_all P (x ∷ l) (suc k) v h n zero = h 0
set_all P (x ∷ l) (suc k) v h n (suc i) = set_all P l k v (λ j. h (suc j)) n i

pub counted_most : (b : Bench) (k session m : ℕ) → Most m b → Most (m + 1) (counted b k session)
unfolding counted
counted_most b k session m h = set_all (λ x. x ≤ m + 1) b.counts k (get_or b.counts k 0 + 1) (λ i. omega (arith, h i)) (omega (arith, h k))

pub dropped_most : (b : Bench) (k m : ℕ) → Most m b → Most m (dropped b k)
unfolding dropped
dropped_most b k m h = set_all (λ x. x ≤ m) b.counts k 0 h (omega arith)

zeros : (n i : ℕ) → ◌≡◌ {A = ℕ} (get_or (replicate n 0) i 0) 0
zeros zero i = refl
zeros (suc n) zero = refl
zeros (suc n) (suc i) = zeros n i

pub empty_most : Most 0 empty
empty_most i = omega (arith, zeros 32 i)

abbrev pub Below : ℕ → Bench → Type 0
Below m b = (i : ℕ) → get_or b.sessions i 0 < m

pub counted_below : (b : Bench) (k session m : ℕ) → Below m b → session < m → Below m (counted b k session)
unfolding counted
counted_below b k session m h l = set_all (λ x. x < m) b.sessions k session h l

pub dropped_below : (b : Bench) (k m : ℕ) → Below m b → Below m (dropped b k)
unfolding dropped
dropped_below b k m h = h

pub empty_below : (m : ℕ) → 0 < m → Below m empty
empty_below m l i = omega (arith, zeros 32 i)

-- ---- the sum of the counts

unfoldable pub total : List ℕ → ℕ
total [] = 0
total (n ∷ l) = n + total l

total_set : (l : List ℕ) (k v : ℕ) → k < length l → total (set l k v) + get_or l k 0 ≡ total l + v
unfolding total
total_set [] k v h = absurd (omega arith)
total_set (n ∷ l) zero v h = omega arith
total_set (n ∷ l) (suc k) v h = omega (arith, total_set l k v (omega arith))

-- there are 32 places
pub record Whole (b : Bench) : Type 0 where
  pub sessions : length b.sessions ≡ 32
  pub counts : length b.counts ≡ 32

module _ (b : Bench) (w : Whole b) (k : ℕ) (h : k < 32) where
  pub counted_whole : (session : ℕ) → Whole (counted b k session)
  unfolding counted
  counted_whole session = record { sessions = length-set b.sessions k session ∙ w.sessions; counts = length-set b.counts k _ ∙ w.counts }

  pub dropped_whole : Whole (dropped b k)
  unfolding dropped
  dropped_whole = record { sessions = w.sessions; counts = length-set b.counts k 0 ∙ w.counts }

  pub counted_total : (session : ℕ) → total (counted b k session).counts ≡ total b.counts + 1
  unfolding counted
  counted_total session = omega (arith, total_set b.counts k (get_or b.counts k 0 + 1) (omega (arith, w.counts)))

  pub dropped_total : get_or b.counts k 0 + total (dropped b k).counts ≡ total b.counts
  unfolding dropped
  dropped_total = omega (arith, total_set b.counts k 0 (omega (arith, w.counts)))

pub empty_whole : Whole empty
empty_whole = record { sessions = refl; counts = refl }

pub empty_total : total empty.counts ≡ 0
unfolding total
empty_total = refl

-- ---- live sessions are distinct

abbrev pub Distinct : Bench → Type 0
Distinct b = (i j : ℕ) → 0 < get_or b.counts i 0 → 0 < get_or b.counts j 0 → get_or b.sessions i 0 ≡ get_or b.sessions j 0 → i ≡ j

pub empty_distinct : Distinct empty
empty_distinct i j h g e = absurd (omega (arith, zeros 32 i))

-- the lowest number of which it is true, and none below it
lowest_found : (p : ℕ → Bool) (n i : ℕ) → lowest p n i < i + n → p (lowest p n i) ≡ true
unfolding lowest
lowest_found p zero i h = absurd (omega arith)
lowest_found p (suc n) i h = cond_ind (p i) i (lowest p n (suc i)) (λ k. k < i + suc n → p k ≡ true) (λ t l. t) (λ t l. lowest_found p n (suc i) (omega arith)) h

lowest_none : (p : ℕ → Bool) (n i k : ℕ) → i ≤ k → k < lowest p n i → p k ≡ false
unfolding lowest
lowest_none p zero i k l = λ h. absurd (omega arith)
lowest_none p (suc n) i k l = cond_ind (p i) i (lowest p n (suc i)) (λ m. k < m → p k ≡ false) (λ t h. absurd (omega arith)) (λ t h. by t (tri i k) (λ m. lowest_none p n (suc i) k m h))
  where
    by : p i ≡ false → (i ≡ k) ⊎ ((i < k) ⊎ (k < i)) → (suc i ≤ k → p k ≡ false) → p k ≡ false
    by t (inl e) rest = rw (← e) t
    by t (inr (inl m)) rest = rest (omega arith)
    by t (inr (inr m)) rest = absurd (omega arith)

module _ (b : Bench) (x : ℕ) where
  both : (f g : Bool) → not f && g ≡ true → (f ≡ false) × (g ≡ true)
  both true g e = absurd (let z : ◌≡◌ {A = ℕ} 0 1 = cc in omega arith)
  both false true e = (refl, refl)
  both false false e = absurd (let z : ◌≡◌ {A = ℕ} 0 1 = cc in omega arith)

  -- a session that is live at a place
  at_is : (k : ℕ) → is_at b x k ≡ true → (0 < get_or b.counts k 0) × (get_or b.sessions k 0 ≡ x)
  unfolding is_at is_free
  at_is k e = let h = both (eqb (get_or b.counts k 0) 0) (eqb (get_or b.sessions k 0) x) e in (omega (arith, eqb-false (get_or b.counts k 0) 0 h.0), eqb-true (get_or b.sessions k 0) x h.1)

  at_so : (k : ℕ) → 0 < get_or b.counts k 0 → get_or b.sessions k 0 ≡ x → is_at b x k ≡ true
  unfolding is_at is_free
  at_so k h e = rw (ne_eqb (get_or b.counts k 0) 0 (λ z. omega arith), eq-eqb (get_or b.sessions k 0) x e)

  -- where it is live
  pub place_is : place_of b x < 32 → (0 < get_or b.counts (place_of b x) 0) × (get_or b.sessions (place_of b x) 0 ≡ x)
  place_is l = at_is (place_of b x) (lowest_found (is_at b x) 32 0 l)

  module _ (w : Whole b) where
    inside : (k : ℕ) → 0 < get_or b.counts k 0 → k < 32
    inside k h = ⊎_elim (λ (l : 32 ≤ k). absurd (omega (arith, get_or-eq_default b.counts 0 {n = k} (omega (arith, w.counts))))) (λ (l : k < 32). l) (le_or_lt 32 k)

    -- where none is live with the session
    absent : 32 ≤ place_of b x → (k : ℕ) → 0 < get_or b.counts k 0 → get_or b.sessions k 0 ≡ x → ⊥
    absent l k h e =
        let n : is_at b x k ≡ false = lowest_none (is_at b x) 32 0 k (omega arith) (omega (arith, inside k h)) in
        let m : is_at b x k ≡ true = at_so k h e in
        let z : ◌≡◌ {A = ℕ} 0 1 = cc in omega arith

    -- a place for the session's fragment has it live, or is free while no place has
    abbrev pub Seat : ℕ → Type 0
    Seat k = ((0 < get_or b.counts k 0) × (get_or b.sessions k 0 ≡ x)) ⊎ ((get_or b.counts k 0 ≡ 0) × ((i : ℕ) → 0 < get_or b.counts i 0 → get_or b.sessions i 0 ≡ x → ⊥))

    pub seat_is : place_for b x < 32 → Seat (place_for b x)
    unfolding place_for is_free
    seat_is =
        cond_ind (ltb (place_of b x) 32) (place_of b x) (free_place b) (λ m. m < 32 → Seat m) (λ t l. inl (at_is (place_of b x) (lowest_found (is_at b x) 32 0 l)))
        (λ t l. inr (free (free_place b) (lowest_found (is_free b) 32 0 l), absent (ltb-false (place_of b x) 32 t)))
      where
        free : (k : ℕ) → is_free b k ≡ true → get_or b.counts k 0 ≡ 0
        free k e = eqb-true (get_or b.counts k 0) 0 e

    module _ (d : Distinct b) where
      -- no other place than this one has the session
      pub only : (k : ℕ) → 0 < get_or b.counts k 0 → get_or b.sessions k 0 ≡ x → k ≡ place_for b x
      unfolding place_for
      only k h e = cond_ind (ltb (place_of b x) 32) (place_of b x) (free_place b) (λ m. k ≡ m) own new
        where
          own : ltb (place_of b x) 32 ≡ true → k ≡ place_of b x
          own t = let a = at_is (place_of b x) (lowest_found (is_at b x) 32 0 (ltb-true (place_of b x) 32 t)) in d k (place_of b x) h a.0 (e ∙ sym a.1)

          new : ltb (place_of b x) 32 ≡ false → k ≡ free_place b
          new t = absurd (absent (ltb-false (place_of b x) 32 t) k h e)

      pub counted_distinct : place_for b x < 32 → Distinct (counted b (place_for b x) x)
      unfolding counted
      counted_distinct l i j h g e = by (tri i k) (tri j k)
        where
          k : ℕ
          k = place_for b x

          here : get_or (set b.sessions k x) k 0 ≡ x
          here = get_or-set_same b.sessions k x 0 (omega (arith, w.sessions))

          other : (i : ℕ) → i ≢ k → get_or (set b.sessions k x) i 0 ≡ get_or b.sessions i 0
          other i n = get_or-set_other b.sessions k i x 0 n

          live : (i : ℕ) → i ≢ k → 0 < get_or (set b.counts k (get_or b.counts k 0 + 1)) i 0 → 0 < get_or b.counts i 0
          live i n h = rw (get_or-set_other b.counts k i (get_or b.counts k 0 + 1) 0 n) at h

          apart : {i : ℕ} → (i < k) ⊎ (k < i) → i ≢ k
          apart {i} o e = ⊎_elim (λ (l : i < k). omega arith) (λ (l : k < i). omega arith) o

          by : (i ≡ k) ⊎ ((i < k) ⊎ (k < i)) → (j ≡ k) ⊎ ((j < k) ⊎ (k < j)) → i ≡ j
          by (inl p) (inl q) = p ∙ sym q
          by (inl p) (inr q) = p ∙ sym (only j (live j (apart q) g) (sym (other j (apart q)) ∙ (sym e ∙ rw p here)))
          by (inr p) (inl q) = only i (live i (apart p) h) (sym (other i (apart p)) ∙ (e ∙ rw q here)) ∙ sym q
          by (inr p) (inr q) = d i j (live i (apart p) h) (live j (apart q) g) (sym (other i (apart p)) ∙ (e ∙ other j (apart q)))

pub dropped_distinct : (b : Bench) → Distinct b → (k : ℕ) → Distinct (dropped b k)
unfolding dropped
dropped_distinct b d k i j h g e = d i j (fewer i h) (fewer j g) e
  where
    less : (l : List ℕ) (k i : ℕ) → get_or (set l k 0) i 0 ≤ get_or l i 0
    less [] k i = omega arith
    less (x ∷ l) zero zero = omega arith
    less (x ∷ l) zero (suc i) = omega arith
    less (x ∷ l) (suc k) zero = omega arith
    less (x ∷ l) (suc k) (suc i) = less l k i

    fewer : (i : ℕ) → 0 < get_or (set b.counts k 0) i 0 → 0 < get_or b.counts i 0
    fewer i h = omega (arith, less b.counts k i)

-- How many places of the bench are taken, and how that changes with one place.
-- Assumes nothing.
use Prim.Native.Nat.{ℕ, zero, suc, ◌+◌, ◌≤◌, ◌<◌}
use Rattle.std.specs.Prelude.{◌≡◌, ◌≢◌, ◌⊎◌, Bool, true, false, cond, get_or}
use Rattle.std.proofs.Math.Path.{refl}
use Rattle.std.proofs.Common.{sym, ◌∙◌, get_or-set_other}
use Rattle.std.proofs.Math.Logic.{⊎_elim}
use native.Mathlib.Omega.{arith}
use borrow.Author.Tests.{eq-eqb, ne_eqb}
use Rattle.std.proofs.Math.ListN.{length}
use Rattle.std.proofs.Math.Seq.{get_or-set_same}
use Rattle.slices.specs.Choice.{cond_ind, le_or_lt, tri, apart}
use Rattle.states.specs.Packed.Bytes.{get_d_past}
use Rattle.sessions.specs.declared.Bench.{Bench}
use Rattle.sessions.specs.Places.{lowest, is_free, counted, dropped, empty}
use Rattle.call_pages.specs.Crowded.Places.{live, taken, taken_from}

pub taken_most : (b : Bench) (k : ℕ) → taken b k ≤ 1
taken_most b k = cond_ind (is_free b k) _ _ (λ (n : ℕ). n ≤ 1) (λ e. omega arith) (λ e. omega arith)

pub taken_so : (b : Bench) (k : ℕ) → 0 < get_or b.counts k 0 → taken b k ≡ 1
unfolding is_free
taken_so b k h = rw (ne_eqb (get_or b.counts k 0) 0 (λ e. omega arith))

pub taken_not : (b : Bench) (k : ℕ) → get_or b.counts k 0 ≡ 0 → taken b k ≡ 0
unfolding is_free
taken_not b k h = rw (eq-eqb (get_or b.counts k 0) 0 h)

-- a free place, and none
pub free_less : (b : Bench) (k : ℕ) → taken b k ≡ 0 → (n i : ℕ) → i ≤ k → k < i + n → taken_from b n i < n
unfolding taken_from
free_less b k h zero i l m = absurd (omega arith)
free_less b k h (suc n) i l m =
    ⊎_elim (λ (e : i ≡ k). let x : taken b i ≡ 0 = rw e h in omega (arith, all_most b n (suc i)))
    (λ (o : (i < k) ⊎ (k < i)). omega
    (arith, taken_most b i, free_less b k h n (suc i) (omega (arith, apart o)) (omega arith))) (tri i k)
  where
    all_most : (b : Bench) (n i : ℕ) → taken_from b n i ≤ n
    all_most b zero i = omega arith
    all_most b (suc n) i = omega (arith, taken_most b i, all_most b n (suc i))

pub full_all : (b : Bench) (n i : ℕ) → i + n ≤ lowest (is_free b) n i → taken_from b n i ≡ n
unfolding taken_from lowest
full_all b zero i = λ h. refl
full_all b (suc n) i = by (is_free b i) (full_all b n (suc i))
  where
    by : (x : Bool) → (suc i + n ≤ lowest (is_free b) n (suc i) → taken_from b n (suc i) ≡ n)
        → i + suc n ≤ cond x i (lowest (is_free b) n (suc i)) → cond x 0 1 + taken_from b n (suc i) ≡ suc n
    by true r h = absurd (omega arith)
    by false r h = omega (arith, r (omega arith))

-- a bench whose counts differ at one place
module _ (b c : Bench) (k : ℕ) (same : (i : ℕ) → i ≢ k → taken c i ≡ taken b i) where
  behind : (n i : ℕ) → k < i → taken_from c n i ≡ taken_from b n i
  unfolding taken_from
  behind zero i h = refl
  behind (suc n) i h = omega (arith, same i (λ e. omega arith), behind n (suc i) (omega arith))

  pub one_more : (n i : ℕ) → taken_from c n i ≤ taken_from b n i + 1
  unfolding taken_from
  one_more zero i = omega arith
  one_more (suc n) i =
      ⊎_elim (λ (e : i ≡ k). omega (arith, taken_most c i, behind n (suc i) (omega arith)))
      (λ (o : (i < k) ⊎ (k < i)). omega (arith, same i (apart o), one_more n (suc i))) (tri i k)

  pub one_less : taken b k ≡ 1 → taken c k ≡ 0 → (n i : ℕ) → i ≤ k → k < i + n → taken_from c n i + 1 ≤ taken_from b n i
  unfolding taken_from
  one_less p q zero i h l = absurd (omega arith)
  one_less p q (suc n) i h l =
      ⊎_elim (λ (e : i ≡ k). let x : taken b i ≡ 1 = rw e p in let y : taken c i ≡ 0 =
      rw e q in omega (arith, behind n (suc i) (omega arith)))
      (λ (o : (i < k) ⊎ (k < i)). omega
      (arith, same i (apart o), one_less p q n (suc i) (omega (arith, apart o)) (omega arith))) (tri i k)

  pub one_same : taken b k ≡ taken c k → (n i : ℕ) → taken_from c n i ≡ taken_from b n i
  unfolding taken_from
  one_same p zero i = refl
  one_same p (suc n) i =
      ⊎_elim (λ (e : i ≡ k). let x : taken b i ≡ taken c i = rw e p in omega (arith, one_same p n (suc i)))
      (λ (o : (i < k) ⊎ (k < i)). omega (arith, same i (apart o), one_same p n (suc i))) (tri i k)

module _ (b : Bench) (k : ℕ) where
  counted_other : (x i : ℕ) → i ≢ k → taken (counted b k x) i ≡ taken b i
  unfolding counted is_free
  counted_other x i n = rw (get_or-set_other b.counts k i (get_or b.counts k 0 + 1) 0 n)

  dropped_other : (i : ℕ) → i ≢ k → taken (dropped b k) i ≡ taken b i
  unfolding dropped is_free
  dropped_other i n = rw (get_or-set_other b.counts k i 0 0 n)

  pub counted_live : (x : ℕ) → live (counted b k x) ≤ live b + 1
  counted_live x = one_more b (counted b k x) k (counted_other x) 32 0

  module _ (l : k < 32) (w : length b.counts ≡ 32) where
    counted_here : (x : ℕ) → taken (counted b k x) k ≡ 1
    unfolding counted is_free
    counted_here x = rw (
      get_or-set_same b.counts k (get_or b.counts k 0 + 1) 0 (omega arith),
      ne_eqb (get_or b.counts k 0 + 1) 0 (λ e. omega arith),
    )

    pub counted_new : (x : ℕ) → get_or b.counts k 0 ≡ 0 → live (counted b k x) ≡ live b + 1
    counted_new x h =
        omega (
          arith,
          counted_live x,
          one_less (counted b k x) b k
              (λ i n. sym (counted_other x i n)) (counted_here x) (taken_not b k h) 32 0 (omega arith) (omega arith),
        )

    pub counted_old : (x : ℕ) → 0 < get_or b.counts k 0 → live (counted b k x) ≡ live b
    counted_old x h = one_same b (counted b k x) k (counted_other x) (taken_so b k h ∙ sym (counted_here x)) 32 0

  module _ (h : 0 < get_or b.counts k 0) (l : k < 32) where
    dropped_here : taken (dropped b k) k ≡ 0
    unfolding dropped is_free
    dropped_here =
        let m : k < length b.counts =
        ⊎_elim (λ (z : length b.counts ≤ k). absurd (omega (arith, get_d_past b.counts k z)))
        (λ (z : k < length b.counts). z) (le_or_lt (length b.counts) k) in
        rw (get_or-set_same b.counts k 0 0 m)

    pub dropped_live : live (dropped b k) + 1 ≤ live b
    dropped_live = one_less b (dropped b k) k dropped_other (taken_so b k h) dropped_here 32 0 (omega arith)
        (omega arith)

    pub dropped_one : live b ≡ live (dropped b k) + 1
    dropped_one = omega (arith, dropped_live, one_more (dropped b k) b k (λ i n. sym (dropped_other i n)) 32 0)

pub live_none : live empty ≡ 0
unfolding taken_from is_free
live_none = refl

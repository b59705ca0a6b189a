-- The bench is refused with 21 just where a new session meets 32 live ones.
-- Assumes nothing.
use Rattle.std.specs.Prelude.{ℕ, zero, suc, ◌+◌, ◌≤◌, ◌<◌, ◌≡◌, refl, ◌≢◌, ◌⊎◌, Bool, cond, ◌&&◌, List, [], ◌∷◌, get_or, ltb, eqb}
use Rattle.std.proofs.Math.Path.{sym, ap}
use Rattle.std.proofs.Common.{◌∙◌, inl, inr, ⊎_elim, arith}
use Rattle.std.proofs.Math.Bool.{true, false, not, and-false}
use borrow.Author.Tests.{le-leb, lt-leb, lt-ltb, le-ltb, ltb-true, ltb-false, eqb-true, eqb-false, eq-eqb, ne_eqb}
use Rattle.std.proofs.Math.ListN.{length}
use Rattle.std.proofs.Math.Dec.{leb}
use Rattle.slices.specs.Choice.{cond_ind, le_or_lt, tri, apart}
use Rattle.states.specs.Packed.Bytes.{get_d_past}
use Rattle.rules.proofs.Vector.Laws.{by_test, never_both}
use Rattle.rules.specs.Gather.{elem}
use Rattle.rules.specs.Gather.Laws as lists
use Rattle.rules.proofs.Gather.Laws as list_laws
use Rattle.step_ends.specs.declared.Names.{Names}
use Rattle.step_ends.specs.declared.Watch.{Watch}
use Rattle.step_ends.specs.Steps.{Steps, unseen, step_ends, rose}
use Rattle.step_ends.specs.Steps as steps
use Rattle.sessions.specs.declared.Bench.{Bench}
use Rattle.sessions.specs.Places.{lowest, is_free, is_at, place_of, free_place, place_for, counted, dropped, empty}
use Rattle.sessions.specs.Places.Laws.{Whole, counted_whole, dropped_whole, empty_whole, Distinct, empty_distinct, place_is, Seat, seat_is, only, counted_distinct, dropped_distinct}
use Rattle.sessions.specs.Places.Laws.Tally.{onto, Agrees, empty_agrees, counted_agrees, dropped_agrees}
use Rattle.sessions.specs.Places.Laws.Tally as tally
use Rattle.fragments.specs.Counting.{closes}
use Rattle.courses.specs.Course.{Course, adds, done, fault, Ends, Faults, Told}
use Rattle.courses.specs.Benched.{seats, counts, drops, benched_from, benched}
use Rattle.call_pages.specs.Crowded.{without, joined, parted, crowded_from, crowded}
use Rattle.call_pages.specs.Crowded.Places.{live}
use Rattle.call_pages.proofs.Crowded.Places.{taken_not, free_less, full_all, counted_new, counted_old, dropped_one, live_none}

-- ---- the list of live sessions

without_absent : (x : ℕ) (l : List ℕ) → elem x l ≡ false → without x l ≡ l
unfolding without elem
without_absent x [] h = refl
without_absent x (y ∷ l) h =
    by_test (eqb x y) (λ q. absurd (never_both (rw q) h)) (λ q. rw q (ap (λ m. y ∷ m) (without_absent x l (rw q at h))))

without_length : (x : ℕ) (l : List ℕ) → elem x l ≡ true → length l ≡ length (without x l) + 1
unfolding without elem
without_length x [] h = let z : ◌≡◌ {A = ℕ} 0 1 = cc in absurd (omega arith)
without_length x (y ∷ l) h =
    by_test (eqb x y) (λ q. rw q (omega arith)) (λ q. rw q (omega (arith, without_length x l (rw q at h))))

without_other : (x y : ℕ) (l : List ℕ) → y ≢ x → elem y (without x l) ≡ elem y l
unfolding without elem
without_other x y [] n = refl
without_other x y (z ∷ l) n =
    by_test (eqb x z)
    (λ q. rw q (sym (list_laws.elem_cons y z l (λ e. n (e ∙ sym (eqb-true x z q))))))
    (λ q. rw (q, without_other x y l n))

without_same : (x : ℕ) (l : List ℕ) → lists.Distinct l → elem x (without x l) ≡ false
unfolding without elem lists.Distinct
without_same x [] d = refl
without_same x (z ∷ l) d =
    by_test (eqb x z) (λ q. rw q (rw (eqb-true x z q) d.0)) (λ q. rw q (rw (q, without_same x l d.1)))

without_distinct : (x : ℕ) (l : List ℕ) → lists.Distinct l → lists.Distinct (without x l)
unfolding without lists.Distinct
without_distinct x [] d = tt
without_distinct x (z ∷ l) d =
    by_test (eqb x z) (λ q. rw q d.1)
    (λ q. rw q (without_other x z l (λ e. eqb-false x z q (sym e)) ∙ d.0, without_distinct x l d.1))

-- ---- a bench, and the list and the tally of its live sessions

record Keeps (b : Bench) (l : List ℕ) (c : ℕ → ℕ) : Type 0 where
  whole : Whole b
  apart : Distinct b
  agrees : Agrees b c
  elems : (x : ℕ) → elem x l ≡ not (eqb (c x) 0)
  single : lists.Distinct l
  count : length l ≡ live b

some_elem : {n : ℕ} → 0 < n → not (eqb n 0) ≡ true
some_elem {n} h = rw (ne_eqb n 0 (λ e. omega arith))

none_elem : {n : ℕ} → n ≡ 0 → not (eqb n 0) ≡ false
none_elem {n} h = rw (eq-eqb n 0 h)

-- no place has a session that is nowhere
none_at : (b : Bench) (x n i k : ℕ) → i ≤ k → k < i + n → i + n ≤ lowest (is_at b x) n i → is_at b x k ≡ false
unfolding lowest
none_at b x zero i k h l = λ m. absurd (omega arith)
none_at b x (suc n) i k h l = by (is_at b x i) refl (λ g m. none_at b x n (suc i) k g (omega arith) m)
  where
    by : (y : Bool) → is_at b x i ≡ y → (suc i ≤ k → suc i + n ≤ lowest (is_at b x) n (suc i) → is_at b x k ≡ false)
        → i + suc n ≤ cond y i (lowest (is_at b x) n (suc i)) → is_at b x k ≡ false
    by true e r m = absurd (omega arith)
    by false e r m = ⊎_elim (λ (q : i ≡ k). rw (← q) e)
        (λ (o : (i < k) ⊎ (k < i)). r (omega (arith, apart o)) (omega arith)) (tri i k)

module _ (b : Bench) (l : List ℕ) (c : ℕ → ℕ) (k : Keeps b l c) (x : ℕ) where
  inside : (i : ℕ) → 0 < get_or b.counts i 0 → i < 32
  inside i h = ⊎_elim (λ (z : 32 ≤ i). absurd
      (omega (arith, get_d_past b.counts i (omega (arith, k.whole.counts))))) (λ (z : i < 32). z) (le_or_lt 32 i)

  live_here : (i : ℕ) → 0 < get_or b.counts i 0 → get_or b.sessions i 0 ≡ x → elem x l ≡ true
  live_here i h e = let p : get_or b.counts i 0 ≡ c x = k.agrees.live i h ∙ ap c e in k.elems x
      ∙ some_elem {n = c x} (omega arith)

  nowhere : ((i : ℕ) → 0 < get_or b.counts i 0 → get_or b.sessions i 0 ≡ x → ⊥) → elem x l ≡ false
  nowhere n = k.elems x ∙ none_elem (k.agrees.absent x n)

  at_so : (i : ℕ) → 0 < get_or b.counts i 0 → get_or b.sessions i 0 ≡ x → is_at b x i ≡ true
  unfolding is_at is_free
  at_so i h e = rw (ne_eqb (get_or b.counts i 0) 0 (λ z. omega arith), eq-eqb (get_or b.sessions i 0) x e)

  no_place : 32 ≤ place_of b x → elem x l ≡ false
  no_place h = nowhere (λ i g e. never_both (at_so i g e)
      (none_at b x 32 0 i (omega arith) (omega (arith, inside i g)) (omega arith)))

  no_free : 32 ≤ place_for b x → 32 ≤ free_place b
  unfolding place_for
  no_free = cond_ind (ltb (place_of b x) 32) (place_of b x) (free_place b) (λ m. 32 ≤ m → 32 ≤ free_place b)
      (λ t h. absurd (omega (arith, ltb-true (place_of b x) 32 t))) (λ t h. h)

  no_seat : 32 ≤ place_for b x → (elem x l ≡ false) × (32 ≤ length l)
  no_seat h = (
    nowhere (λ i g e. omega (arith, inside i g, only b x k.whole k.apart i g e)),
    omega (arith, k.count, full_all b 32 0 (no_free h)),
  )

  -- a new session meets 32 live ones just where there is no place for it
  seat_test : ltb (place_for b x) 32 ≡ not (not (elem x l) && leb 32 (length l))
  seat_test =
      ⊎_elim
      (λ (h : 32 ≤ place_for b x). let (p, q) = no_seat h in rw (le-ltb (place_for b x) 32 h, p, le-leb 32 (length l) q))
      (λ (h : place_for b x < 32). rw (lt-ltb (place_for b x) 32 h) (by (seat_is b x k.whole h) h))
      (le_or_lt 32 (place_for b x))
    where
      by : Seat b x k.whole (place_for b x) → place_for b x < 32 → true ≡ not (not (elem x l) && leb 32 (length l))
      by (inl (p, q)) h = rw (live_here (place_for b x) p q)
      by (inr (p, q)) h =
          let z : length l < 32 =
          omega (
            arith,
            k.count,
            free_less b (place_for b x) (taken_not b (place_for b x) p) 32 0 (omega arith)
                (omega arith),
          ) in
          rw (lt-leb 32 (length l) z, and-false (not (elem x l)))

  -- ---- one more, and one less

  joined_elem : (y : ℕ) → elem y (joined true x l) ≡ not (eqb (onto c x y) 0)
  unfolding joined elem
  joined_elem y =
      by_test (elem x l)
      (λ h. rw h (by_test (eqb y x)
      (λ q. rw q (ap (λ z. elem z l) (eqb-true y x q) ∙ (h ∙ sym (some_elem {n = c y + 1} (omega arith)))))
      (λ q. rw q (k.elems y))))
      (λ h. rw h (by_test (eqb y x) (λ q. rw q (sym (some_elem {n = c y + 1} (omega arith)))) (λ q. rw q (k.elems y))))

  joined_single : lists.Distinct (joined true x l)
  unfolding joined lists.Distinct
  joined_single = by_test (elem x l) (λ h. rw h k.single) (λ h. rw h (h, k.single))

  module _ (m : place_for b x < 32) where
    joined_count : length (joined true x l) ≡ live (counted b (place_for b x) x)
    unfolding joined
    joined_count = by (seat_is b x k.whole m)
      where
        by : Seat b x k.whole (place_for b x) → length (joined true x l) ≡ live (counted b (place_for b x) x)
        by (inl (p, q)) = rw (live_here (place_for b x) p q)
            (k.count ∙ sym (counted_old b (place_for b x) m k.whole.counts x p))
        by (inr (p, q)) = rw (nowhere q)
            (omega (arith, k.count, counted_new b (place_for b x) m k.whole.counts x p))

    keeps_counted : Keeps (counted b (place_for b x) x) (joined true x l) (onto c x)
    keeps_counted = record {
      whole = counted_whole b k.whole (place_for b x) m x;
      apart = counted_distinct b x k.whole k.apart m;
      agrees = counted_agrees b x k.whole k.apart c k.agrees m;
      elems = joined_elem;
      single = joined_single;
      count = joined_count;
    }

  module _ (m : place_of b x < 32) where
    placed : elem x l ≡ true
    placed = let p = place_is b x m in live_here (place_of b x) p.0 p.1

    keeps_dropped : Keeps (dropped b (place_of b x)) (without x l) (tally.without c x)
    keeps_dropped = record {
      whole = dropped_whole b k.whole (place_of b x) m;
      apart = dropped_distinct b k.apart (place_of b x);
      agrees = dropped_agrees b x k.whole k.apart c k.agrees m;
      elems = λ y.
          by_test (eqb y x)
          (λ q. rw q (ap (λ z. elem z (without x l)) (eqb-true y x q) ∙ without_same x l k.single))
          (λ q. rw q (without_other x y l (eqb-false y x q) ∙ k.elems y));
      single = without_distinct x l k.single;
      count = omega (arith, without_length x l placed, k.count, dropped_one b (place_of b x) (place_is b x m).0 m);
    }

-- ---- the courses end alike

abbrev Alike : (c d : Course) → Type 0
Alike c d = Told (λ i. Ends i 0 d) (λ n p. Faults n p d) c

like_adds : (bs : List ℕ) (next : ℕ) (c d : Course) → Alike c d → Alike (adds bs next c) d
unfolding Ends Faults
like_adds bs next c d a = record { ends = a.ends; ended = a.ended; faults = a.faults; faulted = a.faulted }

like_done : (bs : List ℕ) (i n : ℕ) → Alike (adds bs i (done i n)) (done i 0)
unfolding Ends Faults
like_done bs i n = record {
  ends = λ j m e. (e.0, refl);
  ended = λ j e. (n, (e.0, refl));
  faults =
      λ m p e. absurd e;
  faulted = λ m p e. absurd e;
}

like_fault : (n p : ℕ) → Alike (fault n p) (fault n p)
unfolding Ends
like_fault n p = record { ends = λ i m e. absurd e; ended = λ i e. absurd e; faults = λ m q e. e; faulted = λ m q e. e }

module _ (w : Watch) (at next : ℕ) (more : Bench → Course) (then : List ℕ → Course)
    (rec : (b : Bench) (l : List ℕ) (c : ℕ → ℕ) → Keeps b l c → Alike (more b) (then l)) where
  module _ (b : Bench) (l : List ℕ) (c : ℕ → ℕ) (k : Keeps b l c) where
    drops_like : Alike (drops (closes b w) b w next more) (then (parted w.close w.session l))
    unfolding closes drops parted
    drops_like =
        by_test (eqb w.close 1)
        (λ p. by_test (ltb (place_of b w.session) 32)
        (λ q. rw (p, q) (like_adds _ next
        _ _ (rec (dropped b (place_of b w.session)) (without w.session l) (tally.without c w.session)
        (keeps_dropped b l c k w.session (ltb-true _ _ q)))))
        (λ q. rw (p, q, without_absent w.session l (no_place b l c k w.session (ltb-false _ _ q))) (rec b l c k)))
        (λ p. rw p (rec b l c k))

  counts_like : (b : Bench) (l : List ℕ) (c : ℕ → ℕ) → Keeps b l c → (x : Bool)
      → Alike (counts x b w at next (λ d. drops (closes d w) d w next more))
      (cond (x && (not (elem w.session l) && leb 32 (length l))) (fault 21 at)
      (then (parted w.close w.session (joined x w.session l))))
  unfolding counts seats joined
  counts_like b l c k true =
      like_adds _ next _ _ (rw (seat_test b l c k w.session)
      (by (not (elem w.session l) && leb 32 (length l)) refl))
    where
      by : (y : Bool) → (not (elem w.session l) && leb 32 (length l)) ≡ y
          → Alike (cond (not y)
          (drops (closes (counted b (place_for b w.session) w.session) w)
          (counted b (place_for b w.session) w.session) w next more) (fault 21 at))
          (cond y (fault 21 at) (then (parted w.close w.session (joined true w.session l))))
      by true e = like_fault 21 at
      by false e =
          drops_like (counted b (place_for b w.session) w.session) (joined true w.session l)
          (onto c w.session)
          (keeps_counted b l c k w.session (ltb-true _ _ (seat_test b l c k w.session ∙ ap not e)))
  counts_like b l c k false = drops_like b l c k

bench_like : (ends : Steps) (b : Bench) (l : List ℕ) (c : ℕ → ℕ) (before : Watch) (n : ℕ) → Keeps b l c
    → Alike (benched_from b before n ends) (crowded_from before l ends)
unfolding benched_from crowded_from
bench_like (steps.step w at next rest) b l c before n k =
    counts_like w at next (λ d. benched_from d w (n + 1) rest) (λ m. crowded_from w m rest)
    (λ d m e h. bench_like rest d m e w (n + 1) h) b l c k (rose before w)
bench_like (steps.done read) b l c before n k = like_done _ read n
bench_like (steps.refused m p) b l c before n k = like_fault m p

keeps_none : Keeps empty [] (λ x. 0)
unfolding elem lists.Distinct
keeps_none = record {
  whole = empty_whole;
  apart = empty_distinct;
  agrees = empty_agrees;
  elems = λ x. refl;
  single =
      tt;
  count = sym live_none;
}

-- the bench ends, and is refused, as the step ends and the list of live sessions say
pub benched_crowded : (names : Names) (s values : List ℕ) → Told (λ i. Ends i 0 (crowded names s values))
    (λ n p. Faults n p (crowded names s values)) (benched names s values)
unfolding benched crowded
benched_crowded names s values = bench_like (step_ends names s values) empty [] (λ x. 0) unseen 0 keeps_none

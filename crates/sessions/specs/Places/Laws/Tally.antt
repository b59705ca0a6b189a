-- The bench's counts against a tally of each session's fragments since it was last closed.
-- Assumes nothing.
use Rattle.std.specs.Prelude.{◌≡◌, refl, ℕ, ◌+◌, ◌<◌, cond, ◌≢◌, ◌⊎◌, set, eqb}
use Rattle.std.proofs.Math.Path.{sym}
use Rattle.std.proofs.Common.{ap, ◌∙◌, inl, inr, arith, get_or-set_same, get_or-set_other}
use borrow.Author.Tests.{eq-eqb, ne_eqb}
use Rattle.std.proofs.Math.ListN.{get_or}
use Rattle.slices.specs.Choice.{tri, apart}
use Rattle.sessions.specs.declared.Bench.{Bench}
use Rattle.sessions.specs.Places.{place_of, place_for, counted, dropped, empty}
use Rattle.sessions.specs.Places.Laws.{Whole, Distinct, Seat, seat_is, only, place_is, empty_most}

-- one more for a session, and none
abbrev pub onto : (ℕ → ℕ) → ℕ → ℕ → ℕ
onto c x y = cond (eqb y x) (c y + 1) (c y)

abbrev pub without : (ℕ → ℕ) → ℕ → ℕ → ℕ
without c x y = cond (eqb y x) 0 (c y)

-- each live session has its tally as its count, and the others have none
pub record Agrees (b : Bench) (c : ℕ → ℕ) : Type 0 where
  pub live : (k : ℕ) → 0 < get_or b.counts k 0 → get_or b.counts k 0 ≡ c (get_or b.sessions k 0)
  pub absent : (x : ℕ) → ((k : ℕ) → 0 < get_or b.counts k 0 → get_or b.sessions k 0 ≡ x → ⊥) → c x ≡ 0

pub empty_agrees : Agrees empty (λ x. 0)
empty_agrees = record { live = λ k h. absurd (omega (arith, empty_most k)); absent = λ x n. refl }

module _ (b : Bench) (x : ℕ) (w : Whole b) (d : Distinct b) (c : ℕ → ℕ) (a : Agrees b c) where
  module _ (l : place_for b x < 32) where
    abbrev k : ℕ
    k = place_for b x

    seat : Seat b x w k
    seat = seat_is b x w l

    kept : get_or b.counts k 0 ≡ c x
    kept = by seat
      where
        by : Seat b x w k → get_or b.counts k 0 ≡ c x
        by (inl h) = a.live k h.0 ∙ ap c h.1
        by (inr h) = h.0 ∙ sym (a.absent x h.1)

    session_here : get_or (set b.sessions k x) k 0 ≡ x
    session_here = get_or-set_same b.sessions k x 0 (omega (arith, w.sessions))

    count_here : get_or (set b.counts k (get_or b.counts k 0 + 1)) k 0 ≡ get_or b.counts k 0 + 1
    count_here = get_or-set_same b.counts k (get_or b.counts k 0 + 1) 0 (omega (arith, w.counts))

    session_other : (i : ℕ) → i ≢ k → get_or (set b.sessions k x) i 0 ≡ get_or b.sessions i 0
    session_other i n = get_or-set_other b.sessions k i x 0 n

    count_other : (i : ℕ) → i ≢ k → get_or (set b.counts k (get_or b.counts k 0 + 1)) i 0 ≡ get_or b.counts i 0
    count_other i n = get_or-set_other b.counts k i (get_or b.counts k 0 + 1) 0 n

    pub counted_agrees : Agrees (counted b k x) (onto c x)
    unfolding counted
    counted_agrees = record { live = λ i h. live i (tri i k) h; absent = absent }
      where
        live : (i : ℕ) → (i ≡ k) ⊎ ((i < k) ⊎ (k < i)) → 0 < get_or (set b.counts k (get_or b.counts k 0 + 1)) i 0
            → get_or (set b.counts k (get_or b.counts k 0 + 1)) i 0 ≡ onto c x (get_or (set b.sessions k x) i 0)
        live i (inl e) h = rw (e, count_here, session_here, eq-eqb x x refl) (omega (arith, kept))
        live i (inr o) h =
            let n : i ≢ k = apart o in
            let g : 0 < get_or b.counts i 0 = rw (count_other i n) at h in
            rw (count_other i n, session_other i n, ne_eqb (get_or b.sessions i 0) x (λ e. n (only b x w d i g e))) (a.live i g)

        absent : (y : ℕ) → ((i : ℕ) → 0 < get_or (set b.counts k (get_or b.counts k 0 + 1)) i 0 → get_or (set b.sessions k x) i 0 ≡ y → ⊥) → onto c x y ≡ 0
        absent y n =
            let far : y ≢ x = λ e. n k (rw count_here (omega arith)) (session_here ∙ sym e) in
            rw (ne_eqb y x far) (a.absent y (λ i h e. by far (tri i k) h e seat))
          where
            by : y ≢ x → {i : ℕ} → (i ≡ k) ⊎ ((i < k) ⊎ (k < i)) → 0 < get_or b.counts i 0 → get_or b.sessions i 0 ≡ y → Seat b x w k → ⊥
            by far {i} (inl p) h e (inl s) = far (sym e ∙ rw p s.1)
            by far {i} (inl p) h e (inr s) = omega (arith, rw p at h, s.0)
            by far {i} (inr o) h e s = n i (rw (count_other i (apart o)) h) (session_other i (apart o) ∙ e)

  module _ (l : place_of b x < 32) where
    abbrev j : ℕ
    j = place_of b x

    gone_other : (i : ℕ) → i ≢ j → get_or (set b.counts j 0) i 0 ≡ get_or b.counts i 0
    gone_other i n = get_or-set_other b.counts j i 0 0 n

    gone_here : get_or (set b.counts j 0) j 0 ≡ 0
    gone_here = get_or-set_same b.counts j 0 0 (omega (arith, w.counts))

    -- the count that is handed out
    pub closed_agrees : get_or b.counts j 0 ≡ c x
    closed_agrees = let p = place_is b x l in a.live j p.0 ∙ ap c p.1

    pub dropped_agrees : Agrees (dropped b j) (without c x)
    unfolding dropped
    dropped_agrees = record { live = λ i h. live i (tri i j) h; absent = λ y n. absent y n (tri y x) }
      where
        live : (i : ℕ) → (i ≡ j) ⊎ ((i < j) ⊎ (j < i)) → 0 < get_or (set b.counts j 0) i 0 → get_or (set b.counts j 0) i 0 ≡ without c x (get_or b.sessions i 0)
        live i (inl e) h = absurd (omega (arith, rw e at h, gone_here))
        live i (inr o) h =
            let n : i ≢ j = apart o in
            let g : 0 < get_or b.counts i 0 = rw (gone_other i n) at h in
            let p = place_is b x l in
            rw (gone_other i n, ne_eqb (get_or b.sessions i 0) x (λ e. n (d i j g p.0 (e ∙ sym p.1)))) (a.live i g)

        absent : (y : ℕ) → ((i : ℕ) → 0 < get_or (set b.counts j 0) i 0 → get_or b.sessions i 0 ≡ y → ⊥) → (y ≡ x) ⊎ ((y < x) ⊎ (x < y)) → without c x y ≡ 0
        absent y n (inl e) = rw (eq-eqb y x e)
        absent y n (inr o) = rw (ne_eqb y x (apart o)) (a.absent y (λ i h e. by (tri i j) h e))
          where
            by : {i : ℕ} → (i ≡ j) ⊎ ((i < j) ⊎ (j < i)) → 0 < get_or b.counts i 0 → get_or b.sessions i 0 ≡ y → ⊥
            by {i} (inl p) h e = apart o (sym e ∙ rw p (place_is b x l).1)
            by {i} (inr q) h e = n i (rw (gone_other i (apart q)) h) e

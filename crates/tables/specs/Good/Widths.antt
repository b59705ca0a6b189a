-- The widths of the vectors sum to no more than there are signals: every id in a vector's range names that vector, so no id lies in two.
-- Assumes nothing.
use Rattle.std.specs.Prelude.{◌≡◌, refl, cond, List, [], ◌∷◌, ◌⊎◌, eqb, leb, length, get_or}
use Prim.Native.Nat.{ℕ, zero, suc, ◌+◌, ◌-◌, ◌<◌, ◌≤◌}
use Rattle.std.proofs.Common.{⊎_elim, add-one, eq-eqb, ne_eqb, le-leb}
use native.Mathlib.Omega.{arith}
use Rattle.std.proofs.lemmas.Bool.{lt-leb}
use Rattle.slices.specs.Choice.{tri, le_or_lt}
use Rattle.tables.specs.Lists.{Lists}
use Rattle.tables.specs.Layout.{layout_of, start, widths}
use Rattle.tables.specs.Layout.Laws.{width_is, start_small}
use Rattle.tables.specs.Good.{Sized, Ranged}

-- how many are m, and how many at most m
exactly : ℕ → List ℕ → ℕ
exactly m [] = 0
exactly m (x ∷ l) = cond (eqb x m) 1 0 + exactly m l

most : ℕ → List ℕ → ℕ
most m [] = 0
most m (x ∷ l) = cond (leb x m) 1 0 + most m l

one_more : (m x : ℕ) → cond (leb x (suc m)) 1 0 ≡ cond (leb x m) 1 0 + cond (eqb x (suc m)) 1 0
one_more m x =
    ⊎_elim (λ (e : x ≡ suc m). rw (le-leb x (suc m) (omega arith), lt-leb x m (omega arith), eq-eqb x (suc m) e))
    (λ (o : (x < suc m) ⊎ (suc m < x)). ⊎_elim
    (λ (l : x < suc m). rw (le-leb x (suc m) (omega arith), le-leb x m (omega arith), ne_eqb x (suc m) (λ e. omega arith)))
    (λ (l : suc m < x). rw (lt-leb x (suc m) (omega arith), lt-leb x m (omega arith), ne_eqb x (suc m) (λ e. omega arith))) o)
    (tri x (suc m))

most_more : (m : ℕ) (l : List ℕ) → most (suc m) l ≡ most m l + exactly (suc m) l
unfolding most exactly
most_more m [] = refl
most_more m (x ∷ l) = omega (arith, one_more m x, most_more m l)

cond_le : (m x : ℕ) → cond (leb x m) 1 0 ≤ 1
cond_le m x = ⊎_elim (λ (o : x ≤ m). rw (le-leb x m o) (omega arith)) (λ (o : m < x). rw (lt-leb x m o) (omega arith)) (le_or_lt x m)

most_length : (m : ℕ) (l : List ℕ) → most m l ≤ length l
unfolding most
most_length m [] = omega arith
most_length m (x ∷ l) = omega (arith, cond_le m x, most_length m l)

-- a run of places that hold m
run : (m a b : ℕ) (l : List ℕ) → b ≤ length l → ((i : ℕ) → a ≤ i → i < b → get_or l i 0 ≡ m) → b - a ≤ exactly m l
unfolding exactly
run m a b [] h f = omega arith
run m a zero (x ∷ l) h f = omega arith
run m zero (suc b) (x ∷ l) h f = rw (eq-eqb x m (f 0 (omega arith) (omega arith))) (omega (arith, run m 0 b l (omega arith) (λ i p q. f (suc i) (omega arith) (omega arith))))
run m (suc a) (suc b) (x ∷ l) h f = omega (arith, run m a b l (omega arith) (λ i p q. f (suc i) (omega arith) (omega arith)))

module _ (t : Lists) (z : Sized t) (r : Ranged t)
    (names : (v i : ℕ) → v < length t.mins → get_or t.mins v 0 ≤ i + 1 → i + 1 ≤ get_or t.maxs v 0 → get_or t.vecs i 0 ≡ v + 1) where
  width_named : (v : ℕ) → v < length t.mins → (layout_of t).width v ≤ exactly (suc v) t.vecs
  width_named v h =
      let o = r.vector v h in
      omega (arith, width_is t v h, run (suc v) (get_or t.mins v 0 - 1) (get_or t.maxs v 0) t.vecs (omega (arith, z.vecs_long)) (λ i p q. rw add-one at (names v i h (omega arith) (omega arith))))

  widths_named : (v : ℕ) → v ≤ length t.mins → widths (layout_of t) v ≤ most v t.vecs
  unfolding widths
  widths_named zero h = omega arith
  widths_named (suc v) h = omega (arith, widths_named v (omega arith), width_named v h, most_more v t.vecs)

  pub widths_fit : widths (layout_of t) (length t.mins) ≤ length t.kinds
  widths_fit = omega (arith, widths_named (length t.mins) (omega arith), most_length (length t.mins) t.vecs, z.vecs_long)

  -- so that every start takes 16 bits
  pub starts_fit : start (layout_of t) (length t.mins) ≤ 63486
  starts_fit = start_small (layout_of t) (length t.mins) (λ i l. omega (arith, width_is t i l)) (omega (arith, widths_fit, z.few_signals)) z.few_vectors

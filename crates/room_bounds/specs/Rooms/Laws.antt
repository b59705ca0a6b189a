-- No value of tables that pass check 2 is wider than the widest.
-- Assumes nothing.
use Rattle.std.specs.Prelude.{ℕ, zero, suc, ◌≤◌, ◌<◌, true, List, [], ◌∷◌, get_or, leb, eqb}
use Rattle.std.proofs.Math.Path.{◌≡◌}
use Rattle.std.proofs.Math.Bool.{cond}
use Rattle.std.proofs.Math.Logic.{⊎_elim}
use Rattle.std.proofs.Common.{arith, leb-true, leb-false, eq-eqb}
use Rattle.std.proofs.Math.ListN.{length}
use Rattle.slices.specs.Choice.{cond_ind, le_or_lt}
use Rattle.states.specs.Kind.{bytes_required}
use Rattle.states.specs.Packed.Bytes.{get_d_past}
use Rattle.tables.specs.Lists.{Lists, nth, vectors}
use Rattle.tables.specs.Good as tables
use Rattle.rules.proofs.Vector.Laws.{by_test}
use Rattle.rules.specs.Gather.{width}
use Rattle.gather.specs.Run.{gathers}
use Rattle.room_bounds.specs.Rooms.{has_number, larger, most, vector_bytes, widest}

pub record Widest (t : Lists) (w : ℕ) : Type 0 where
  pub vector : (v : ℕ) → vector_bytes t v ≤ w
  pub plain : 1 ≤ w
  pub number : (i : ℕ) → nth t.kinds i ≡ 5 → 8 ≤ w

larger_both : (a b : ℕ) → (a ≤ larger a b) × (b ≤ larger a b)
unfolding larger
larger_both a b = cond_ind (leb a b) _ _ (λ n. (a ≤ n) × (b ≤ n)) (λ e. (leb-true a b e, omega arith))
    (λ e. (omega arith, let h = leb-false a b e in omega arith))

most_base : (f : ℕ → ℕ) (n m : ℕ) → m ≤ most f n m
unfolding most
most_base f zero m = omega arith
most_base f (suc n) m = let a = most_base f n m in let b = larger_both (f n) (most f n m) in omega arith

most_each : (f : ℕ → ℕ) (n m v : ℕ) → v < n → f v ≤ most f n m
unfolding most
most_each f zero m v h = absurd (omega arith)
most_each f (suc n) m v h =
    let b = larger_both (f n) (most f n m) in
    ⊎_elim (λ (l : n ≤ v). let e : v ≡ n = omega arith in rw e b.0)
    (λ (l : v < n). let a = most_each f n m v l in omega arith) (le_or_lt n v)

found_number : (kinds : List ℕ) (i : ℕ) → get_or kinds i 0 ≡ 5 → has_number kinds ≡ true
unfolding has_number
found_number [] i e = let z : ◌≡◌ {A = ℕ} 0 5 = e in absurd (omega arith)
found_number (k ∷ kinds) zero e = rw (eq-eqb k 5 e)
found_number (k ∷ kinds) (suc i) e = by_test (eqb k 5) (λ q. rw q) (λ q. rw q (found_number kinds i e))

pub has_number_lem : (t : Lists) (i : ℕ) → nth t.kinds i ≡ 5 → has_number t.kinds ≡ true
unfolding nth
has_number_lem t zero e = absurd (omega arith)
has_number_lem t (suc i) e = found_number t.kinds i e

module _ (t : Lists) (s : tables.Sized t) where
  past_bytes : (v : ℕ) → length t.mins ≤ v → vector_bytes t v ≡ 1
  unfolding vector_bytes width gathers bytes_required
  past_bytes v h = rw (
    get_d_past t.states v (omega (arith, s.states_long)),
    get_d_past t.maxs v (omega (arith, s.maxs_long)),
    get_d_past t.mins v h,
  )

  pub widest_is : Widest t (widest t)
  unfolding widest vectors
  widest_is =
      let base = most_base (vector_bytes t) (length t.mins) (cond (has_number t.kinds) 8 1) in
      let one : 1 ≤ cond (has_number t.kinds) 8 1 =
      cond_ind (has_number t.kinds) 8 1 (λ n. 1 ≤ n) (λ e. omega arith) (λ e. omega arith) in
      record {
        vector = λ v.
            ⊎_elim (λ (l : length t.mins ≤ v). let e = past_bytes v l in omega arith)
            (λ (l : v < length t.mins). most_each (vector_bytes t) (length t.mins) _ v l)
            (le_or_lt (length t.mins) v);
        plain = omega arith;
        number = λ i e. let f : ◌≡◌ {A = ℕ} (cond (has_number t.kinds) 8 1) 8 = rw (has_number_lem t i e) in omega arith;
      }

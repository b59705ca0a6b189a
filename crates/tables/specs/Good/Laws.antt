-- Tables that pass the checks are good.
-- Assumes nothing.
use Rattle.std.specs.Prelude.{◌≡◌, true, not, ◌||◌, List, [], ◌∷◌, ◌⊎◌, eqb, length}
use Rattle.std.proofs.Math.Path.{refl}
use Rattle.std.proofs.Common.{◌∙◌, inl, inr, add-one}
use Prim.Native.Nat.{ℕ, zero, suc, ◌+◌, ◌-◌, ◌<◌, ◌≤◌}
use Rattle.std.proofs.Math.Logic.{⊎_elim}
use native.Mathlib.Omega.{arith}
use Rattle.std.proofs.Math.Decide.{ℕ_discrete}
use borrow.Author.Tests.{leb-true, eqb-true, eqb-false, not-true, eq-eqb, ne_eqb, le-leb}
use Rattle.std.proofs.Math.ListN.{get_or}
use Rattle.states.specs.Kind.{state_of}
use Rattle.slices.specs.Choice.{tri, le_or_lt}
use Rattle.tables.specs.Lists.{Lists, nth, signals, vectors}
use Rattle.tables.specs.Layout.{layout_of}
use Rattle.tables.specs.Layout.Laws.{width_is, state_is}
use Rattle.tables.specs.Checks.{within_limit, equal_lengths, good_vector, holds, suits, good_number, good_signal, names_all, check1, check2, check3, check4, check5, check6, checks}
use Rattle.tables.specs.Checks.Laws.{nth_at, nth_less, both, unless_passed, then_passed, lowest_passed}
use Rattle.tables.specs.Check.{Passed}
use Rattle.tables.specs.Good.Widths.{widths_fit, starts_fit}
use Rattle.tables.specs.Good.{Limits, Sized, Vector, Ranged, Bit, Signals, Named, Good}

-- ---- checks 1 to 4

pub limits : (input events values room list : ℕ) → check1 input events values room list ≡ Passed → Limits input events values room list
unfolding check1 within_limit
limits input events values room list e =
    let a = both _ _ (unless_passed _ 1 e) in
    let b = both _ _ a.0 in
    let c = both _ _ b.0 in
    let d = both _ _ c.0 in
    record { of_input = leb-true _ _ d.0; of_events = leb-true _ _ d.1; of_values = leb-true _ _ c.1; of_room = leb-true _ _ b.1; of_list = leb-true _ _ a.1 }

pub sized : (t : Lists) → check2 t ≡ Passed → Sized t
unfolding check2 equal_lengths signals vectors
sized t e =
    let a = both _ _ (unless_passed _ 2 e) in
    let b = both _ _ a.0 in
    let c = both _ _ b.0 in
    let d = both _ _ c.0 in
    let f = both _ _ d.0 in
    let g = both _ _ f.0 in
    record {
      refs_long = eqb-true _ _ g.0;
      vecs_long = eqb-true _ _ g.1;
      maxs_long = eqb-true _ _ f.1;
      states_long = eqb-true _ _ d.1;
      vec_refs_long = eqb-true _ _ c.1;
      few_signals = leb-true _ _ b.1;
      few_vectors = leb-true _ _ a.1;
    }

-- a number that is not 0
some : (a : ℕ) → not (eqb a 0) ≡ true → 1 ≤ a
some a e = let f : a ≡ 0 → ⊥ = eqb-false a 0 (not-true _ e) in omega (arith, f)

module _ (t : Lists) where
  good_vector_lem : (v : ℕ) → good_vector t (v + 1) ≡ true → Vector t v
  unfolding good_vector signals
  good_vector_lem v e =
      let a = both _ _ (simp nth_at at e) in
      let b = both _ _ a.0 in
      let c = both _ _ b.0 in
      let d = both _ _ c.0 in
      record { least = leb-true _ _ d.0; order = leb-true _ _ d.1; most = leb-true _ _ c.1; state = leb-true _ _ b.1; reference = some _ a.1 }

  pub ranged : check3 t ≡ Passed → Ranged t
  unfolding check3 vectors
  ranged e = record { vector = λ v h. good_vector_lem v (lowest_passed 3 (good_vector t) (length t.mins) 1 e (v + 1) (omega arith) (omega arith)) }

  good_signal_lem : (i : ℕ) → i < length t.kinds → check4 t ≡ Passed → good_signal t (i + 1) ≡ true
  unfolding check4 signals
  good_signal_lem i h e = lowest_passed 4 (good_signal t) (length t.kinds) 1 e (i + 1) (omega arith) (omega arith)

  bit : (i v state : ℕ) → v ≡ get_or t.vecs i 0 → suits t (i + 1) v state ≡ true → Bit t state i
  unfolding suits holds vectors
  bit i v state q e =
      let a = both _ _ e in
      let b = both _ _ a.0 in
      let c = both _ _ b.0 in
      let d = both _ _ c.0 in
      let f = both _ _ c.1 in
      let n : 1 ≤ v = leb-true _ _ d.0 in
      record {
        some = rw (← q) n;
        inside = rw (← q) (leb-true _ _ d.1);
        above = rw (← q, ← nth_less t.mins v n) (leb-true _ _ f.0);
        below = rw (← q, ← nth_less t.maxs v n) (leb-true _ _ f.1);
        matches = rw (← q, ← nth_less t.states v n) (eqb-true _ _ b.1);
        same = rw (← q, ← nth_less t.vec_refs v n, ← nth_at t.refs i) (eqb-true _ _ a.1);
      }

  module _ (e : check4 t ≡ Passed) (i : ℕ) (h : i < length t.kinds) where
    abbrev kind_at : ℕ
    kind_at = get_or t.kinds i 0

    abbrev Three : Type 0
    Three = (kind_at ≤ 6) × (1 ≤ get_or t.refs i 0) × (good_number t (i + 1) (get_or t.vecs i 0) kind_at ≡ true)

    three : Three
    unfolding good_signal
    three =
        let a = both _ _ (simp nth_at at (good_signal_lem i h e)) in
        let b = both _ _ a.0 in
        (leb-true _ _ b.0, some _ b.1, a.1)

    of_nine : kind_at ≡ 1 → Bit t 0 i
    unfolding good_number
    of_nine k = bit i (get_or t.vecs i 0) 0 refl (rw (eq-eqb kind_at 1 k) at three.2)

    of_two : kind_at ≡ 3 → Bit t 1 i
    unfolding good_number
    of_two k = bit i (get_or t.vecs i 0) 1 refl (simp (ne_eqb kind_at 1 (λ z. omega arith), eq-eqb kind_at 3 k) at three.2)

    of_none : (kind_at ≡ 1 → ⊥) → (kind_at ≡ 3 → ⊥) → get_or t.vecs i 0 ≡ 0
    unfolding good_number
    of_none a b = eqb-true _ _ (simp (ne_eqb kind_at 1 a, ne_eqb kind_at 3 b) at three.2)

  pub signals_good : check4 t ≡ Passed → Signals t
  signals_good e = record { kind = λ i h. (three e i h).0; reference = λ i h. (three e i h).1; nine = of_nine e; two = of_two e; alone = of_none e }

  -- ---- checks 5 and 6

  one_name : (m v id : ℕ) → v < m → names_all t m id ≡ true → (not (holds t (v + 1) id) || eqb (nth t.vecs id) (v + 1)) ≡ true
  unfolding names_all
  one_name zero v id h e = absurd (omega arith)
  one_name (suc m) v id h e =
      let a = both _ _ e in
      ⊎_elim (λ (q : v ≡ m). rw (q, add-one) a.1) (λ (q : (v < m) ⊎ (m < v)). ⊎_elim (λ (l : v < m). one_name m v id l a.0) (λ (l : m < v). absurd (omega arith)) q) (tri v m)

  module _ (z : Sized t) (r : Ranged t) (e : check5 t ≡ Passed) where
    names_vector : (v i : ℕ) → v < length t.mins → get_or t.mins v 0 ≤ i + 1 → i + 1 ≤ get_or t.maxs v 0 → get_or t.vecs i 0 ≡ v + 1
    unfolding check5 holds signals vectors
    names_vector v i h a b =
        let o = r.vector v h in
        let g = lowest_passed 5 (names_all t (length t.mins)) (length t.kinds) 1 e (i + 1) (omega arith) (omega arith) in
        eqb-true _ _ (simp (nth_at, le-leb (get_or t.mins v 0) (i + 1) a, le-leb (i + 1) (get_or t.maxs v 0) b) at (one_name (length t.mins) v (i + 1) h g))

    pub named : Named t
    named =
        record {
          names = names_vector;
          disjoint = λ u v id hu hv a b c d.
              let o = r.vector u hu in
              let n : id - 1 + 1 ≡ id = omega arith in
              omega (arith, names_vector u (id - 1) hu (omega arith) (omega arith), names_vector v (id - 1) hv (omega arith) (omega arith));
          narrow = widths_fit t z r names_vector;
          starts = starts_fit t z r names_vector;
        }

-- tables that pass all checks
module _ (t : Lists) (input events values room list : ℕ) (e : checks t input events values room list ≡ Passed) where
  abbrev Both : Type 0
  Both = Limits input events values room list × Good t room list

  all_good : Both
  unfolding checks check6 vectors
  all_good =
      let a = then_passed _ _ e in
      let b = then_passed _ _ a.1 in
      let c = then_passed _ _ b.1 in
      let d = then_passed _ _ c.1 in
      let f = then_passed _ _ d.1 in
      let g = both _ _ (unless_passed _ 6 f.1) in
      let z = sized t b.0 in
      let r = ranged t c.0 in
      (limits input events values room list a.0, record { sized = z; ranged = r; signals = signals_good t d.0; named = named t z r f.0; bytes = leb-true _ _ g.0; numbers = leb-true _ _ g.1 })

  pub limited : Limits input events values room list
  limited = all_good.0

  pub good : Good t room list
  good = all_good.1

-- ---- a bit and its vector

module _ {t : Lists} {state i : ℕ} (b : Bit t state i) where
  abbrev vector_of : ℕ
  vector_of = get_or t.vecs i 0 - 1

  pub bit_vector : vector_of < length t.mins
  bit_vector = omega (arith, b.some, b.inside)

  -- "Bit number is max id minus id."
  pub bit_number : get_or t.maxs vector_of 0 - (i + 1) < (layout_of t).width vector_of
  bit_number = omega (arith, width_is t vector_of bit_vector, b.above)

  pub bit_state : (layout_of t).state vector_of ≡ state_of state
  bit_state = state_is t vector_of bit_vector ∙ rw b.matches

module _ {t : Lists} (z : Sized t) (g : Signals t) where
  past_end : (l : List ℕ) (i : ℕ) → length l ≤ i → get_or l i 0 ≡ 0
  past_end [] i h = refl
  past_end (x ∷ l) zero h = absurd (omega arith)
  past_end (x ∷ l) (suc i) h = past_end l i (omega arith)

  -- a signal that has a vector number is a bit of that vector
  has_vector : (i v : ℕ) → get_or t.vecs i 0 ≡ suc v → Bit t 0 i ⊎ Bit t 1 i
  has_vector i v e =
      ⊎_elim
      (λ (o : length t.kinds ≤ i). absurd (omega (arith, z.vecs_long, past_end t.vecs i (omega (arith, z.vecs_long)))))
      (λ (h : i < length t.kinds). go h (ℕ_discrete (get_or t.kinds i 0) 1) (ℕ_discrete (get_or t.kinds i 0) 3))
      (le_or_lt (length t.kinds) i)
    where
      go : i < length t.kinds → Dec (get_or t.kinds i 0 ≡ 1) → Dec (get_or t.kinds i 0 ≡ 3) → Bit t 0 i ⊎ Bit t 1 i
      go h (yes k) o = inl (g.nine i h k)
      go h (no n) (yes k) = inr (g.two i h k)
      go h (no n) (no m) = absurd (omega (arith, g.alone i h n m))

  -- the id of a signal that has a vector number lies in that vector's range
  pub in_range : (id v : ℕ) → nth t.vecs id ≡ suc v → (get_or t.mins v 0 ≤ id) × (id ≤ get_or t.maxs v 0)
  unfolding nth
  in_range zero v e = absurd (omega arith)
  in_range (suc i) v e = ⊎_elim ranges ranges (has_vector i v e)
    where
      ranges : {state : ℕ} → Bit t state i → (get_or t.mins v 0 ≤ suc i) × (suc i ≤ get_or t.maxs v 0)
      ranges b = let q : get_or t.vecs i 0 - 1 ≡ v = omega arith in (rw (q, add-one) at b.above, rw (q, add-one) at b.below)

-- A record that is read from bytes is made of the bytes that an append of it would write.
-- Assumes nothing.
use Rattle.std.specs.Prelude.{◌≡◌, refl, ℕ, zero, suc, ◌+◌, ◌-◌, ◌≤◌, ◌<◌, Bool, ◌⊎◌, length, get_or, take, drop}
use Rattle.std.proofs.Common.{ap, inl, inr, ⊎_elim, add_assoc, add-one, arith, get_or-drop, drop-cons}
use mathlib.Core.List.{List, [], ◌∷◌, ◌++◌}
use Rattle.slices.specs.Choice.{tri}
use Rattle.slices.specs.Splice.{part}
use Rattle.slices.specs.Splice.Laws.{length_part, part_join}
use Rattle.numbers.specs.Fixed.{big, big_bytes}
use Rattle.numbers.specs.Fixed.Laws.{Bytes, big_bytes_back}
use Rattle.states.specs.declared.States.{States}
use Rattle.states.specs.declared.States.TheVariants.{Two, Nine}
use Rattle.records.specs.declared.Record.{Record}
use Rattle.records.specs.declared.Record.TheVariants.{Time, Value, Real}
use Rattle.records.specs.Event.{kind_of, record_bytes}
use Rattle.event_streams.specs.Stream.{event_length}
use Rattle.event_streams.proofs.Stream.Laws.{Stands}
use Rattle.event_streams.proofs.Stream.Code.{kind_time, kind_zero, kind_high, kind_value, states_two, states_nine, record_time, record_real, record_value}

bytes_drop : (n : ℕ) (l : List ℕ) → Bytes l → Bytes (drop n l)
bytes_drop n l h i = rw (get_or-drop n l i 0) (h (n + i))

bytes_take : (n : ℕ) (l : List ℕ) → Bytes l → Bytes (take n l)
bytes_take zero l h i = omega arith
bytes_take (suc n) [] h i = omega arith
bytes_take (suc n) (b ∷ l) h zero = h 0
bytes_take (suc n) (b ∷ l) h (suc i) = bytes_take n l (λ k. h (suc k)) i

part_cons : (s : List ℕ) (i n : ℕ) → i < length s → part s i (suc n) ≡ get_or s i 0 ∷ part s (i + 1) n
unfolding part
part_cons s i n h = rw (drop-cons s i 0 h, add-one i)

module _ (s : List ℕ) (i : ℕ) (b : Bytes s) where
  -- the bytes of a number that was read
  back : (at n : ℕ) → at + n ≤ length s → big_bytes n (big (part s at n)) ≡ part s at n
  unfolding part
  back at n h = big_bytes_back (part s at n) n (bytes_take n (drop at s) (bytes_drop at s b)) (length_part s at n h)

  time_back : i + 9 ≤ length s → get_or s i 0 ≡ 1 → record_bytes (Time (big (part s (i + 1) 8))) ≡ part s i 9
  unfolding record_bytes
  time_back h e = rw (back (i + 1) 8 (omega arith), part_cons s i 8 (omega arith), e)

  module _ (h : i + 13 ≤ length s) where
    real_back : get_or s i 0 ≡ 4 → record_bytes (Real (big (part s (i + 1) 4)) (big (part s (i + 5) 8))) ≡ part s i 13
    unfolding record_bytes
    real_back e =
        rw (back (i + 1) 4 (omega arith), back (i + 5) 8 (omega arith), part_cons s i 12 (omega arith), e) (ap (λ (l : List ℕ). 4 ∷ l) (rw (add_assoc i 1 4) at (part_join s (i + 1) 4 8)))

    value_back : (st : States) → get_or s i 0 ≡ kind_of st → record_bytes (Value st (big (part s (i + 1) 4)) (big (part s (i + 5) 4)) (big (part s (i + 9) 4))) ≡ part s i 13
    unfolding record_bytes
    value_back st e =
        let one : part s (i + 1) 4 ++ part s (i + 5) 4 ≡ part s (i + 1) 8 = rw (add_assoc i 1 4) at (part_join s (i + 1) 4 4) in
        let two : part s (i + 1) 8 ++ part s (i + 9) 4 ≡ part s (i + 1) 12 = rw (add_assoc i 1 8) at (part_join s (i + 1) 8 4) in
        rw (back (i + 1) 4 (omega arith), back (i + 5) 4 (omega arith), back (i + 9) 4 (omega arith), part_cons s i 12 (omega arith), e, one, two)

-- a known kind
kinds : (k : ℕ) → 0 < event_length k → (k ≡ 1) ⊎ ((k ≡ 4) ⊎ ((k ≡ 2) ⊎ (k ≡ 3)))
kinds k h =
    ⊎_elim (λ (e : k ≡ 1). inl e)
    (λ o. ⊎_elim (λ (l : k < 1). absurd (omega (arith, kind_zero l)))
    (λ (l : 1 < k). inr (⊎_elim (λ (e : k ≡ 4). inl e)
    (λ o. inr (⊎_elim (λ (m : k < 4). ⊎_elim (λ (e : k ≡ 3). inr e) (λ o. inl (⊎_elim (λ (n : k < 3). omega arith) (λ (n : 3 < k). absurd (omega arith)) o)) (tri k 3)) (λ (m : 4 < k). absurd (omega (arith, kind_high {k = k} (omega arith)))) o))
    (tri k 4))) o)
    (tri k 1)

module _ (s : List ℕ) (values : ℕ) (begun : Bool) (i : ℕ) {r : Record} {j : ℕ} (b : Bytes s) (w : Stands s values begun i r j) where
  size : {n : ℕ} → n ≡ event_length (get_or s i 0) → j - i ≡ n
  size e = omega (arith, w.next)

  value_size : (get_or s i 0 ≡ 2) ⊎ (get_or s i 0 ≡ 3) → 13 ≡ event_length (get_or s i 0)
  value_size (inl e) = kind_value (λ o. omega arith) (omega arith) (omega arith)
  value_size (inr e) = kind_value (λ o. omega arith) (omega arith) (omega arith)

  pub stands_bytes : record_bytes r ≡ part s i (j - i)
  stands_bytes = ⊎_elim first (λ o. ⊎_elim fourth (λ o. ⊎_elim second third o) o) (kinds (get_or s i 0) (omega (arith, w.next, w.ahead)))
    where
      first : get_or s i 0 ≡ 1 → record_bytes r ≡ part s i (j - i)
      first e = rw (size (kind_time e), w.is, ← record_time s i e refl) (time_back s i b (omega (arith, kind_time e, w.next, w.within)) e)

      fourth : get_or s i 0 ≡ 4 → record_bytes r ≡ part s i (j - i)
      fourth e =
          let n : 13 ≡ event_length (get_or s i 0) = kind_value (λ o. omega arith) (omega arith) (omega arith) in
          rw (size n, w.is, ← record_real s i e refl refl) (real_back s i b (omega (arith, w.next, w.within)) e)

      second : get_or s i 0 ≡ 2 → record_bytes r ≡ part s i (j - i)
      second e =
          let n = value_size (inl e) in
          rw (size n, w.is, ← record_value s i (λ o. omega arith) (λ o. omega arith) (states_two e) refl) (value_back s i b (omega (arith, n, w.next, w.within)) Two e)

      third : get_or s i 0 ≡ 3 → record_bytes r ≡ part s i (j - i)
      third e =
          let n = value_size (inr e) in
          rw (size n, w.is, ← record_value s i (λ o. omega arith) (λ o. omega arith) (states_nine {k = get_or s i 0} (λ o. omega arith)) refl) (value_back s i b (omega (arith, n, w.next, w.within)) Nine e)

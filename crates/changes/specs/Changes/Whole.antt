-- How long a change record is, and one that lies within the input.
-- Assumes nothing.
use Rattle.std.specs.Prelude.{◌≡◌, ℕ, ◌+◌, ◌≤◌, ◌<◌, List, ◌⊎◌, length}
use Rattle.std.proofs.Common.{sym, inl, inr, ⊎_elim, arith}
use borrow.Author.Tests.{ne_eqb}
use Rattle.slices.specs.Choice.{tri, apart}
use Rattle.changes.specs.Changes.{record_length}

pub length_time : (k : ℕ) → k ≡ 1 → 9 ≡ record_length k
unfolding record_length
length_time k e = rw e

module _ (k : ℕ) (n : k ≡ 1 → ⊥) where
  pub length_byte : k ≡ 2 → 6 ≡ record_length k
  unfolding record_length
  length_byte e = rw e

  module _ (n₂ : k ≡ 2 → ⊥) where
    pub length_wide : k ≡ 3 → 13 ≡ record_length k
    unfolding record_length
    length_wide e = rw e

    module _ (n₃ : k ≡ 3 → ⊥) where
      pub length_end : k ≡ 4 → 1 ≡ record_length k
      unfolding record_length
      length_end e = rw e

      pub length_none : (k ≡ 4 → ⊥) → 0 ≡ record_length k
      unfolding record_length
      length_none n₄ = rw (ne_eqb k 1 n, ne_eqb k 2 n₂, ne_eqb k 3 n₃, ne_eqb k 4 n₄)

-- a record of a known kind that lies within the input
pub record Whole (s : List ℕ) (k i : ℕ) : Type 0 where
  pub known : record_length k ≡ 0 → ⊥
  pub begins : i < length s
  pub ends : i + record_length k ≤ length s

-- .. a write
pub record Writes (s : List ℕ) (k i : ℕ) : Type 0 where
  pub byte : k ≡ 2 → i + 6 ≤ length s
  pub wide : (k ≡ 2 → ⊥) → i + 13 ≤ length s

module _ {s : List ℕ} {k i : ℕ} (w : Whole s k i) where
  pub whole_time : k ≡ 1 → i + 1 + 8 ≤ length s
  whole_time e = omega (arith, w.ends, length_time k e)

  module _ (n : k ≡ 1 → ⊥) (n₄ : k ≡ 4 → ⊥) where
    a_write : (k ≡ 2) ⊎ (k ≡ 3)
    a_write =
        ⊎_elim (λ e. inl e)
        (λ o₂. ⊎_elim (λ e. inr e) (λ o₃. absurd (w.known (sym (length_none k n (apart o₂) (apart o₃) n₄)))) (tri k 3))
        (tri k 2)

    pub whole_write : Writes s k i
    whole_write =
        record {
          byte = λ e. omega (arith, w.ends, length_byte k n e);
          wide = λ n₂. ⊎_elim (λ e. absurd (n₂ e)) (λ e. omega (arith, w.ends, length_wide k n n₂ e)) a_write;
        }

    pub whole_id : i + 1 + 4 ≤ length s
    whole_id = ⊎_elim (λ e. omega (arith, whole_write.byte e)) (λ e. omega (arith, w.ends, length_wide k n (λ z. omega arith) e)) a_write

module _ {s : List ℕ} {k i : ℕ} (w : Writes s k i) where
  pub writes_byte : k ≡ 2 → i + 6 ≤ length s
  writes_byte e = w.byte e

  pub writes_wide : (k ≡ 2 → ⊥) → i + 13 ≤ length s
  writes_wide n = w.wide n

pub ruleset length_laws = (length_time, length_byte, length_wide, length_end, length_none)

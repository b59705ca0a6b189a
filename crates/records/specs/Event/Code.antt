-- What the proofs of the functions that put a record search.
-- Assumes nothing.
use Rattle.std.specs.Prelude.{◌≡◌, List, [], ◌∷◌, ◌++◌, set}
use Rattle.std.proofs.Math.Path.{refl, ap}
use Rattle.std.proofs.Common.{◌∙◌, arith, length-append}
use Prim.Native.Nat.{ℕ, suc, ◌+◌, ◌≤◌}
use Rattle.std.proofs.Math.ListN.{length}
use Rattle.slices.specs.Splice.{splice}
use Rattle.slices.specs.Splice.Laws.{splice_splice, set_splice}
use Rattle.numbers.specs.Fixed.{big_bytes}
use Rattle.numbers.specs.Fixed.Laws.{length_big_bytes}
use Rattle.states.specs.declared.States.{States}
use Rattle.records.specs.declared.Record.TheVariants.{Time, Value, Real}
use Rattle.records.specs.Event.{kind_of, record_bytes}

-- ---- the fields of a record, each behind the one before

module _ (e : List ℕ) (at : ℕ) where
  pub kind_put : (kind : ℕ) → at + 1 ≤ length e → set e at kind ≡ splice e at (kind ∷ [])
  kind_put kind h = set_splice e at kind (omega arith)

  -- a field behind the `n` bytes that were put
  behind : (bs : List ℕ) (n : ℕ) → length bs ≡ n → at + n ≤ length e → (cs : List ℕ) → splice (splice e at bs) (at + n) cs ≡ splice e at (bs ++ cs)
  behind bs n l h cs = rw l at (splice_splice e at bs cs (rw l h))

  module _ (kind : ℕ) {e₀ : List ℕ} (k : e₀ ≡ splice e at (kind ∷ [])) where
    pub time_put : (u : ℕ) → at + 9 ≤ length e → kind ≡ 1 → {e₁ : List ℕ} → e₁ ≡ splice e₀ (at + 1) (big_bytes 8 u) → e₁ ≡ splice e at (record_bytes (Time u))
    unfolding record_bytes
    time_put u h one p = p ∙ rw (k, one) (behind (1 ∷ []) 1 refl (omega arith) (big_bytes 8 u))

    module _ (reference : ℕ) (h : at + 13 ≤ length e) {e₁ : List ℕ} (p : e₁ ≡ splice e₀ (at + 1) (big_bytes 4 reference)) where
      first : e₁ ≡ splice e at (kind ∷ big_bytes 4 reference)
      first = p ∙ rw k (behind (kind ∷ []) 1 refl (omega arith) (big_bytes 4 reference))

      second : (bs : List ℕ) {e₂ : List ℕ} → e₂ ≡ splice e₁ (at + 5) bs → e₂ ≡ splice e at (kind ∷ big_bytes 4 reference ++ bs)
      second bs q = q ∙ rw first (behind (kind ∷ big_bytes 4 reference) 5 (ap suc (length_big_bytes 4 reference)) (omega arith) bs)

      pub value_put : (s : States) → kind ≡ kind_of s → (start n : ℕ) {e₂ e₃ : List ℕ} → e₂ ≡ splice e₁ (at + 5) (big_bytes 4 start) → e₃ ≡ splice e₂ (at + 9) (big_bytes 4 n)
          → e₃ ≡ splice e at (record_bytes (Value s reference start n))
      unfolding record_bytes
      value_put s two start n q r =
          let l : length (kind ∷ big_bytes 4 reference ++ big_bytes 4 start) ≡ 9 = ap suc (length-append (big_bytes 4 reference) (big_bytes 4 start) ∙ simp length_big_bytes) in
          r ∙ rw (second (big_bytes 4 start) q, ← two) (behind (kind ∷ big_bytes 4 reference ++ big_bytes 4 start) 9 l (omega arith) (big_bytes 4 n))

      pub real_put : kind ≡ 4 → (bits : ℕ) {e₂ : List ℕ} → e₂ ≡ splice e₁ (at + 5) (big_bytes 8 bits) → e₂ ≡ splice e at (record_bytes (Real reference bits))
      unfolding record_bytes
      real_put four bits q = second (big_bytes 8 bits) q ∙ ap (λ (x : ℕ). splice e at (x ∷ big_bytes 4 reference ++ big_bytes 8 bits)) four

pub ruleset put_laws = (kind_put, time_put, value_put, real_put)

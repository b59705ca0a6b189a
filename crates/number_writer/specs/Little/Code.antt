-- What the proofs of `written` search for numbers of fixed size.
-- Assumes nothing.
use Rattle.std.specs.Prelude.{◌≡◌, Bool, true, false}
use Rattle.std.proofs.Common.{◌∙◌}
use Rattle.std.proofs.Math.Path.{ap}
use Prim.Native.Nat.{ℕ}
use mathlib.Core.List.{List}
use Rattle.std.specs.Int.{w64, to_le_bytes, to_be_bytes}
use Rattle.std.proofs.Math.Nat.{div-one, div-div-eq-div-mul}
use Rattle.numbers.specs.Fixed.{big_bytes}
use Rattle.number_writer.specs.Put.{after_put}
use Rattle.number_writer.specs.Little.{little_bytes, fixed_bytes}

-- ---- eight bytes into a buffer

pub little_eight : (v : ℕ) (out : List ℕ) (at : ℕ) {bs out' : List ℕ} → bs ≡ to_le_bytes w64 v → out' ≡ after_put out at bs → out' ≡ after_put out at (little_bytes 8 v)
unfolding little_bytes
little_eight v out at e p = p ∙ rw e (ap (after_put out at) (same v))
  where
    same : (v : ℕ) → to_le_bytes w64 v ≡ little_bytes 8 v
    same v = simp div-div-eq-div-mul

pub big_eight : (v : ℕ) (out : List ℕ) (at : ℕ) {bs out' : List ℕ} → bs ≡ to_be_bytes w64 v → out' ≡ after_put out at bs → out' ≡ after_put out at (big_bytes 8 v)
unfolding big_bytes
big_eight v out at e p = p ∙ rw (e, div-one)

module _ {flag : Bool} (v : ℕ) (out : List ℕ) (at : ℕ) {out' : List ℕ} where
  pub fixed_is_big : flag ≡ true → out' ≡ after_put out at (big_bytes 8 v) → out' ≡ after_put out at (fixed_bytes flag 8 v)
  unfolding fixed_bytes
  fixed_is_big f e = rw f e

  pub fixed_is_little : flag ≡ false → out' ≡ after_put out at (little_bytes 8 v) → out' ≡ after_put out at (fixed_bytes flag 8 v)
  unfolding fixed_bytes
  fixed_is_little f e = rw f e

pub ruleset eight_laws = (little_eight, big_eight, fixed_is_big, fixed_is_little)

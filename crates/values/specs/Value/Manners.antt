-- A value in two manners of reading: reals alone differ, and in their bits alone.
-- Assumes nothing.
use Rattle.std.specs.Prelude.{ℕ, ◌+◌, ◌≡◌, Bool, cond, List, length}
use Rattle.std.proofs.Math.Path.{refl}
use Rattle.std.proofs.Math.Bool.{true, false}
use Rattle.std.proofs.Common.{arith}
use borrow.Author.Tests.{lt-leb, leb-false, eqb-false}
use Rattle.std.proofs.Math.Dec.{leb, eqb}
use Rattle.slices.specs.Splice.{part}
use Rattle.numbers.specs.Fixed.{fixed}
use Rattle.values.specs.declared.How.{How}
use Rattle.values.specs.Read.{Read, Value, Bad}
use Rattle.values.specs.Value.{manner, ordinary, signed, big_real, real, narrow, value}

-- what was read, its value changed
unfoldable pub blank_read : (ℕ → ℕ) → Read → Read
blank_read f (Value v j) = Value (f v) j
blank_read f (Bad n p) = Bad n p

-- a value of a kind, a real's bits aside
unfoldable pub without_real : (kind v : ℕ) → ℕ
without_real kind v = cond (leb kind 5) v 0

module _ (how how' : How) (kind : ℕ) (s : List ℕ) (i : ℕ) where
  real_blank : leb kind 5 ≡ false → blank_read (without_real kind) (real how s i) ≡ blank_read (without_real kind) (real how' s i)
  unfolding real blank_read without_real
  real_blank e = by (leb (i + 8) (length s))
    where
      by : (b : Bool)
          → blank_read (without_real kind) (cond b (Value (fixed (big_real how) (part s i 8)) (i + 8)) (Bad 7 i))
          ≡ blank_read (without_real kind) (cond b (Value (fixed (big_real how') (part s i 8)) (i + 8)) (Bad 7 i))
      by true = rw e
      by false = refl

  -- between any two manners: the same place or refusal, and the same value but for a real's bits
  pub value_blank : blank_read (without_real kind) (value how kind s i) ≡ blank_read (without_real kind) (value how' kind s i)
  unfolding value
  value_blank = by (leb kind 4) refl (eqb kind 5) refl
    where
      by : (b : Bool) → leb kind 4 ≡ b → (c : Bool) → eqb kind 5 ≡ c
          → blank_read (without_real kind) (cond b (narrow kind s i) (cond c (signed s i) (real how s i)))
          ≡ blank_read (without_real kind) (cond b (narrow kind s i) (cond c (signed s i) (real how' s i)))
      by true e c f = refl
      by false e true f = refl
      by false e false f = real_blank (lt-leb kind 5 (omega (arith, leb-false kind 4 e, eqb-false kind 5 f)))

-- where the flag is little the modes are one
little_real : (m : Bool) (s : List ℕ) (i : ℕ) → real (manner false m) s i ≡ real (ordinary false) s i
unfolding real
little_real true s i = refl
little_real false s i = refl

pub value_little : (m : Bool) (kind : ℕ) (s : List ℕ) (i : ℕ) → value (manner false m) kind s i ≡ value (ordinary false) kind s i
unfolding value
value_little m kind s i = rw (little_real m s i)

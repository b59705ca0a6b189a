-- A number of fixed size that was written is read back.
-- Assumes nothing.
use Rattle.std.specs.Prelude.{◌≡◌, refl, ℕ, zero, suc, ◌/◌, ◌^◌, ◌<◌, Bool, true, false, length}
use Rattle.std.proofs.Common.{ap, pow-suc, arith}
use Rattle.numbers.specs.Fixed.{little, fixed}
use Rattle.numbers.specs.Fixed.Laws.{length_big_bytes, big_back}
use Rattle.number_writer.specs.Little.{little_bytes, fixed_bytes}

pub length_little_bytes : (n v : ℕ) → length (little_bytes n v) ≡ n
unfolding little_bytes
length_little_bytes zero v = refl
length_little_bytes (suc n) v = ap suc (length_little_bytes n (v / 256))

pub length_fixed_bytes : (flag : Bool) (n v : ℕ) → length (fixed_bytes flag n v) ≡ n
unfolding fixed_bytes
length_fixed_bytes true n v = length_big_bytes n v
length_fixed_bytes false n v = length_little_bytes n v

pub little_back : (n v : ℕ) → v < 256 ^ n → little (little_bytes n v) ≡ v
unfolding little little_bytes
little_back zero v h = omega arith
little_back (suc n) v h = let e = little_back n (v / 256) (omega (arith, pow-suc 256 n)) in omega arith

pub fixed_back : (flag : Bool) (n v : ℕ) → v < 256 ^ n → fixed flag (fixed_bytes flag n v) ≡ v
unfolding fixed fixed_bytes
fixed_back true n v h = big_back n v h
fixed_back false n v h = little_back n v h

-- Numbers of fixed size written: the lowest byte first, or by the flag.
-- Assumes nothing.
use Rattle.std.specs.Prelude.{ℕ, zero, suc, ◌/◌, ◌%◌, Bool, cond, List, [], ◌∷◌}
use Rattle.numbers.specs.Fixed.{big_bytes}
pub mod Laws
pub mod Code

-- "eight bytes, always little-endian": the n bytes of a number, the lowest first
unfoldable pub little_bytes : ℕ → ℕ → List ℕ
little_bytes zero v = []
little_bytes (suc n) v = v % 256 ∷ little_bytes n (v / 256)

-- "Integers of fixed size follow the flag."
unfoldable pub fixed_bytes : Bool → ℕ → ℕ → List ℕ
fixed_bytes flag n v = cond flag (big_bytes n v) (little_bytes n v)

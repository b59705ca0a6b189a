-- Numbers of fixed size in bytes: the lowest byte first, the highest first, or by the flag; and what of them is negative.
-- Assumes nothing.
use Rattle.std.specs.Prelude.{ℕ, zero, suc, ◌+◌, ◌-◌, ◌*◌, ◌/◌, ◌%◌, ◌^◌, Bool, cond, List, [], ◌∷◌, length, leb, None, Option, Some}
pub mod Laws
pub mod Code

-- the number that some bytes spell, the first the lowest
unfoldable pub little : List ℕ → ℕ
little [] = 0
little (b ∷ bs) = b + 256 * little bs

-- .. and the first the highest
unfoldable pub big : List ℕ → ℕ
big [] = 0
big (b ∷ bs) = b * 256 ^ length bs + big bs

-- "Integers of fixed size follow the flag."
unfoldable pub fixed : Bool → List ℕ → ℕ
fixed flag bs = cond flag (big bs) (little bs)

-- "numbers big-endian": the n bytes of a number
unfoldable pub big_bytes : ℕ → ℕ → List ℕ
big_bytes zero v = []
big_bytes (suc n) v = v / 256 ^ n % 256 ∷ big_bytes n v

-- the top bit of a number of `bits` bits says that it is negative
unfoldable pub negative : ℕ → ℕ → Bool
negative bits v = leb (2 ^ (bits - 1)) v

-- "Negative numbers are refused": a signed number of 32 bits, told apart by its sign
unfoldable pub positive : ℕ → Option ℕ
positive v = cond (negative 32 v) None (Some v)

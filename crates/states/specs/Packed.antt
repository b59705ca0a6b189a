-- The bytes of a value, and a value's place in them. A list of values has bit 0 first.
-- Assumes nothing.
use Rattle.std.specs.Prelude.{ℕ, zero, suc, ◌+◌, ◌-◌, ◌*◌, ◌/◌, ◌%◌, ◌^◌, List, [], ◌∷◌, length, get_or, set, drop}
use Rattle.states.specs.declared.States.{States}
use Rattle.states.specs.Kind.{bits, per_byte, bytes_required}
use Rattle.states.specs.Field.{field_get, field_set}
pub mod Laws
pub mod Bytes

-- the first n values of a list, the first lowest, b bits to each
unfoldable pub digits : ℕ → ℕ → List ℕ → ℕ
digits b zero l = 0
digits b (suc n) [] = 0
digits b (suc n) (x ∷ l) = x + 2 ^ b * digits b n l

unfoldable pub bytes : States → ℕ → List ℕ → List ℕ
bytes s zero l = []
bytes s (suc n) l = digits (bits s) (per_byte s) (drop (per_byte s * n) l) ∷ bytes s n l

-- "Bit 0 lies lowest in the last byte; unused high places are zero."
unfoldable pub packed : States → List ℕ → List ℕ
packed s l = bytes s (bytes_required s (length l)) l

-- ---- a field of a list of bytes, by the number of its lowest bit, eight to a byte

unfoldable pub field_at : ℕ → ℕ → List ℕ → ℕ
field_at b p l = field_get b (p % 8) (get_or l (p / 8) 0)

unfoldable pub set_at : ℕ → ℕ → List ℕ → ℕ → List ℕ
set_at b p l x = set l (p / 8) (field_set b (p % 8) (get_or l (p / 8) 0) x)

-- where the value of a bit lies, of a vector whose n value bytes start at `at`: "bit 0 lies lowest in the last byte"
unfoldable pub value_place : States → ℕ → ℕ → ℕ → ℕ
value_place s at n bit = 8 * (at + (n - 1 - bit / per_byte s)) + bit % per_byte s * bits s

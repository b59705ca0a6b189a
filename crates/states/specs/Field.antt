-- A field of a byte, as arithmetic.
-- Assumes nothing.
use Rattle.std.specs.Prelude.{ℕ, ◌+◌, ◌*◌, ◌/◌, ◌%◌, ◌^◌}
pub mod Laws
pub mod Shifts

-- the field of `b` bits that starts at `shift`
unfoldable pub field_get : ℕ → ℕ → ℕ → ℕ
field_get b shift byte = byte / 2 ^ shift % 2 ^ b

-- what is above the field, the new value, and what is below it
unfoldable pub field_set : ℕ → ℕ → ℕ → ℕ → ℕ
field_set b shift byte value = byte / 2 ^ (b + shift) * 2 ^ (b + shift) + value * 2 ^ shift + byte % 2 ^ shift

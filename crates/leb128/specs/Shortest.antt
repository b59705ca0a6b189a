-- LEB128 written in its shortest form, as DWARF 5 section 7.6 has it. A signed number is its 64 bits in two's complement.
-- Assumes nothing.
use Rattle.std.specs.Prelude.{ℕ, zero, suc, ◌+◌, ◌-◌, ◌/◌, ◌%◌, ◌^◌, Bool, true, false, cond, List, [], ◌∷◌, ltb, leb}
pub mod Groups
pub mod Laws
pub mod Examples

-- what is left lies within seven bits: below 128, or, of a signed number, from -64 to 63, so that bit 6 is the sign
unfoldable pub fits : Bool → ℕ → Bool
fits false n = ltb n 128
fits true v = cond (ltb v 64) true (leb (2 ^ 64 - 64) v)

-- what is left after the low seven bits: of a signed number the sign is kept
unfoldable pub rest : Bool → ℕ → ℕ
rest false n = n / 128
rest true v = cond (ltb v (2 ^ 63)) (v / 128) (v / 128 + (2 ^ 64 - 2 ^ 57))

-- the low seven bits, then what is left where that is not yet all; "the high bit of a byte says that another follows"
unfoldable pub groups : Bool → ℕ → ℕ → List ℕ
groups signed zero n = n % 128 ∷ []
groups signed (suc k) n = cond (fits signed n) (n % 128 ∷ []) ((128 + n % 128) ∷ groups signed k (rest signed n))

-- "LEB128 has at most ten bytes."
abbrev pub leb_bytes : Bool → ℕ → List ℕ
leb_bytes signed n = groups signed 9 n

abbrev pub unsigned_bytes : ℕ → List ℕ
unsigned_bytes n = leb_bytes false n

abbrev pub signed_bytes : ℕ → List ℕ
signed_bytes v = leb_bytes true v

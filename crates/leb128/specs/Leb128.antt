-- LEB128, as DWARF 5 section 7.6 has it: seven bits of the number to a byte, the lowest first; the high bit of a byte says that another follows.
-- Assumes nothing.
use Rattle.std.specs.Prelude.{ℕ, suc, ◌+◌, ◌-◌, ◌*◌, ◌%◌, ◌^◌, List, [], ◌∷◌, Bool, true, cond, length, get_or, take, drop, ltb, leb, eqb, ℤ, pos}
use Rattle.std.proofs.Math.IntN.{sub_ℕ}
use Rattle.std.proofs.Common.{of_z}
use Rattle.std.specs.Int.{w64}
use Rattle.leb128.specs.Leb.{Leb, Value, Short, Large}
pub mod Nine
pub mod Laws
pub mod Code
pub mod Examples

-- the sum of the seven-bit groups of some bytes, the first one's the lowest
unfoldable pub value : List ℕ → ℕ
value [] = 0
value (b ∷ bs) = b % 128 + 128 * value bs

-- how many bytes at the front say that another follows
unfoldable pub goes_on : List ℕ → ℕ
goes_on [] = 0
goes_on (b ∷ bs) = cond (ltb b 128) 0 (suc (goes_on bs))

-- the number that some bytes spell in two's complement, in the seven bits of each: where bit 6 of the last byte is set, 128 to the number of bytes less than the sum
unfoldable pub signed_value : List ℕ → ℤ
signed_value bs = cond (leb 64 (get_or bs (length bs - 1) 0 % 128)) (sub_ℕ (value bs) (128 ^ length bs)) (pos (value bs))

-- the 64 bits of a signed number, in two's complement
unfoldable pub signed_bits : List ℕ → ℕ
signed_bits bs = of_z w64 (signed_value bs)

-- "LEB128 has at most ten bytes": the number at the front of a list whose first byte has the place `at`. Within nine bytes any will do, padded forms too; of the tenth only some
unfoldable pub leb_of : (ℕ → Bool) → (List ℕ → ℕ) → List ℕ → ℕ → Leb
leb_of tenth number l at =
    cond (ltb (goes_on l) 9)
    (cond (ltb (goes_on l) (length l)) (Value (number (take (goes_on l + 1) l)) (at + (goes_on l + 1))) Short)
    (cond (ltb 9 (length l)) (cond (tenth (get_or l 9 0)) (Value (number (take 10 l)) (at + 10)) Large) Short)

-- "The tenth must be 0 or 1 (unsigned), ..
unfoldable pub unsigned_tenth : ℕ → Bool
unsigned_tenth b = leb b 1

-- .. 0 or 127 (signed)."
unfoldable pub signed_tenth : ℕ → Bool
signed_tenth b = cond (eqb b 0) true (eqb b 127)

abbrev pub read_unsigned : List ℕ → ℕ → Leb
read_unsigned s at = leb_of unsigned_tenth value (drop at s) at

abbrev pub read_signed : List ℕ → ℕ → Leb
read_signed s at = leb_of signed_tenth signed_bits (drop at s) at

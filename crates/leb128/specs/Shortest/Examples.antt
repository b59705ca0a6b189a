-- The numbers of DWARF 5 section 7.6's tables, and the ends of 64 bits, as one table under one statement.
-- Assumes nothing.
use Rattle.std.specs.Prelude.{◌≡◌, refl, ℕ, ◌^◌, ◌-◌, List, [], ◌∷◌, ◌++◌, replicate, pos, neg_ℤ}
use Rattle.std.proofs.Common.{of_z}
use Rattle.std.specs.Int.{w64}
use Rattle.leb128.specs.Shortest.{fits, rest, groups, unsigned_bytes, signed_bytes}

-- the bytes of a number, and of a number below 0
abbrev bytes_of : ℕ → List ℕ
bytes_of n = signed_bytes (of_z w64 (pos n))

abbrev minus : ℕ → List ℕ
minus n = signed_bytes (of_z w64 (neg_ℤ (pos n)))

pub examples :
    (unsigned_bytes 0 ≡ 0x00 ∷ [])
    × (unsigned_bytes 2 ≡ 0x02 ∷ [])
    × (unsigned_bytes 127 ≡ 0x7F ∷ [])
    × (unsigned_bytes 128 ≡ 0x80 ∷ 0x01 ∷ [])
    × (unsigned_bytes 12857 ≡ 0xB9 ∷ 0x64 ∷ [])
    × (unsigned_bytes (2 ^ 64 - 1) ≡ replicate 9 0xFF ++ (0x01 ∷ []))
    × (bytes_of 0 ≡ 0x00 ∷ [])
    × (bytes_of 63 ≡ 0x3F ∷ [])
    × (bytes_of 64 ≡ 0xC0 ∷ 0x00 ∷ [])
    × (bytes_of 127 ≡ 0xFF ∷ 0x00 ∷ [])
    × (bytes_of 128 ≡ 0x80 ∷ 0x01 ∷ [])
    × (bytes_of (2 ^ 63 - 1) ≡ replicate 9 0xFF ++ (0x00 ∷ []))
    × (minus 1 ≡ 0x7F ∷ [])
    × (minus 2 ≡ 0x7E ∷ [])
    × (minus 64 ≡ 0x40 ∷ [])
    × (minus 65 ≡ 0xBF ∷ 0x7F ∷ [])
    × (minus 127 ≡ 0x81 ∷ 0x7F ∷ [])
    × (minus 128 ≡ 0x80 ∷ 0x7F ∷ [])
    × (minus 129 ≡ 0xFF ∷ 0x7E ∷ [])
    × (minus (2 ^ 63) ≡ replicate 9 0x80 ++ (0x7F ∷ []))
unfolding groups fits rest
examples =
    (refl, refl, refl, refl, refl, refl, refl, refl, refl, refl, refl, refl, refl, refl, refl, refl, refl, refl, refl, refl)

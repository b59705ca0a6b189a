-- LEB128 examples, as one table under one statement: bytes, and what a reading of them finds.
-- Assumes nothing.
use Rattle.std.specs.Prelude.{◌≡◌, refl, ℕ, ◌^◌, ◌-◌, List, [], ◌∷◌, ◌++◌, length, replicate, ℤ, pos, neg_ℤ}
use Rattle.std.proofs.Common.{of_z}
use Rattle.std.specs.Int.{w64}
use Rattle.leb128.specs.Leb.{Value, Short, Large}
use Rattle.leb128.specs.Leb128.{value, goes_on, signed_value, signed_bits, leb_of, unsigned_tenth, signed_tenth, read_unsigned, read_signed}

-- the bytes spell the unsigned number n, and nothing is left
abbrev pub Spells : List ℕ → ℕ → Type 0
Spells bs n = read_unsigned bs 0 ≡ Value n (length bs)

-- the bytes spell the signed number z, whose 64 bits are found, and nothing is left
abbrev pub SpellsSigned : List ℕ → ℤ → Type 0
SpellsSigned bs z = read_signed bs 0 ≡ Value (of_z w64 z) (length bs)

abbrev pub minus : ℕ → ℤ
minus n = neg_ℤ (pos n)

pub examples :
    Spells (0x7F ∷ []) 127
    × Spells (0x80 ∷ 0x01 ∷ []) 128
    × Spells (0xB9 ∷ 0x64 ∷ []) 12857
    × Spells (0x80 ∷ 0x00 ∷ []) 0
    × Spells (replicate 9 0xFF ++ (0x01 ∷ [])) (2 ^ 64 - 1)
    × (read_unsigned (replicate 9 0xFF ++ (0x02 ∷ [])) 0 ≡ Large)
    × (read_unsigned (replicate 9 0x80) 0 ≡ Short)
    × (read_unsigned (replicate 10 0x80) 0 ≡ Large)
    × (read_unsigned (replicate 10 0x80 ++ (0 ∷ [])) 0 ≡ Large)
    × (read_unsigned [] 0 ≡ Short)
    × (read_unsigned (0x7F ∷ []) 3 ≡ Short)
    × SpellsSigned (0x7E ∷ []) (minus 2)
    × SpellsSigned (0x80 ∷ 0x7F ∷ []) (minus 128)
    × SpellsSigned (0xFF ∷ 0x7E ∷ []) (minus 129)
    × SpellsSigned (replicate 9 0x80 ++ (0x7F ∷ [])) (minus (2 ^ 63))
unfolding leb_of value goes_on signed_value signed_bits unsigned_tenth signed_tenth
examples = (refl, refl, refl, refl, refl, refl, refl, refl, refl, refl, refl, refl, refl, refl, refl)

-- Document 01's proved examples: one table, under a single statement.
-- Assumes nothing.
use Rattle.std.specs.Prelude.{◌≡◌, refl, ℕ, ◌^◌, ◌-◌, List, [], ◌∷◌, ◌++◌, replicate}
use Rattle.leb128.specs.Leb128.{value, goes_on, signed_value, signed_bits, leb_of, unsigned_tenth, signed_tenth, read_unsigned}
use Rattle.leb128.specs.Leb128.Examples.{Spells, SpellsSigned, minus}
use Rattle.leb128.specs.Leb.{Large}
use Rattle.states.specs.declared.States.TheVariants.{Nine}
use Rattle.states.specs.Kind.{bytes_required}
use Rattle.states.specs.Packed.{digits, bytes, packed}
use Rattle.rules.specs.Vector.{began, wrote, shown, over, all, any, fresh, cleared, fires, clashes, stored, acts_early, act}
use Rattle.rules.specs.Gather.{width, Act, write, Happening, at, single, of, ends, begin, with, elem, list, end_all, bit_write, to_vector, toward, does, happens}
use Rattle.rules.specs.Examples.{one_step, vectors_from, GatheringRows, gathering_rows}

-- the value bytes of each event of nine-state vectors
unfoldable pub nine_values : List Happening → List (List ℕ)
nine_values [] = []
nine_values (at u ∷ h) = nine_values h
nine_values (single i x p ∷ h) = nine_values h
nine_values (of v (began u) ∷ h) = nine_values h
nine_values (of v (wrote x) ∷ h) = nine_values h
nine_values (of v (shown c l) ∷ h) = packed Nine l ∷ nine_values h
nine_values (of v over ∷ h) = nine_values h
nine_values (ends ∷ h) = nine_values h

-- ids 1, 2, 3 of one vector
unfoldable pub by_rising_id : List Act
by_rising_id = write 1 5 0 ∷ write 2 1 1 ∷ write 3 8 2 ∷ []

pub record Table : Type 0 where
  -- unsigned
  pub one_byte : Spells (0x7F ∷ []) 127
  pub two_bytes : Spells (0x80 ∷ 0x01 ∷ []) 128
  pub dwarf : Spells (0xB9 ∷ 0x64 ∷ []) 12857
  pub padded : Spells (0x80 ∷ 0x00 ∷ []) 0
  pub largest : Spells (replicate 9 0xFF ++ (0x01 ∷ [])) (2 ^ 64 - 1)
  pub too_large : read_unsigned (replicate 9 0xFF ++ (0x02 ∷ [])) 0 ≡ Large
  -- signed
  pub minus_2 : SpellsSigned (0x7E ∷ []) (minus 2)
  pub minus_128 : SpellsSigned (0x80 ∷ 0x7F ∷ []) (minus 128)
  pub minus_129 : SpellsSigned (0xFF ∷ 0x7E ∷ []) (minus 129)
  pub least : SpellsSigned (replicate 9 0x80 ++ (0x7F ∷ [])) (minus (2 ^ 63))
  -- "mapped nine-state values 5,1,8 by rising id pack to 05 18"
  pub pack : nine_values (one_step acts_early (vectors_from 1 3) by_rising_id) ≡ (0x05 ∷ 0x18 ∷ []) ∷ []
  -- "on ids 2, 3 above, each in one step from zero"
  pub gathering : GatheringRows

pub table : Table
unfolding leb_of value goes_on signed_value signed_bits unsigned_tenth signed_tenth digits bytes packed bytes_required nine_values by_rising_id one_step vectors_from all any fresh cleared fires clashes stored acts_early act width begin with elem list end_all bit_write to_vector toward does happens
table =
    record {
      one_byte = refl;
      two_bytes = refl;
      dwarf = refl;
      padded = refl;
      largest = refl;
      too_large = refl;
      minus_2 = refl;
      minus_128 = refl;
      minus_129 = refl;
      least = refl;
      pack = refl;
      gathering = gathering_rows;
    }

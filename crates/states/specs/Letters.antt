-- The nine states of IEEE 1164 by their letters, in two orders, and how a value of the one order is written in the other.
-- Assumes nothing.
use Rattle.std.specs.Prelude.{ℕ, suc, cond, List, [], ◌∷◌, get_or}
use Prim.Native.String.{String}
use lib.Text.{eqt}
pub mod Laws

-- "IEEE 1164's order U X 0 1 Z W L H -"
unfoldable pub ieee1164 : List String
ieee1164 = "U" ∷ "X" ∷ "0" ∷ "1" ∷ "Z" ∷ "W" ∷ "L" ∷ "H" ∷ "-" ∷ []

-- "the crate's order 0 1 x z h u w l -", in capitals
unfoldable pub crate_order : List String
crate_order = "0" ∷ "1" ∷ "X" ∷ "Z" ∷ "H" ∷ "U" ∷ "W" ∷ "L" ∷ "-" ∷ []

-- how many letters of an order stand before a letter
unfoldable pub place_of : String → List String → ℕ
place_of a [] = 0
place_of a (b ∷ l) = cond (eqt a b) 0 (suc (place_of a l))

-- "The map carries IEEE 1164's order to the crate's order": the letter of a value in the one, found in the other
unfoldable pub mapped : ℕ → ℕ
mapped b = place_of (get_or ieee1164 b "") crate_order

-- the other way round
unfoldable pub unmapped : ℕ → ℕ
unmapped v = place_of (get_or crate_order v "") ieee1164

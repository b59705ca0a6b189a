-- The nine-entry table is the map, proved once over the whole table.
-- Assumes nothing.
use Rattle.std.specs.Prelude.{◌≡◌, refl, ℕ, zero, suc, ◌*◌, ◌/◌, ◌%◌, ◌^◌, ◌≤◌, ◌<◌, Bool, true, false, cond, List, [], ◌∷◌, length, get_or, leb}
use Rattle.std.proofs.Common.{ap, ◌∙◌, arith, leb-true}
use Prim.Native.String.{String}
use Rattle.std.proofs.lemmas.Bool.{false≢true}
use Rattle.states.specs.Letters.{ieee1164, crate_order, place_of, mapped, unmapped}

-- "mapped by [5,2,0,1,3,6,7,4,8]"
abbrev pub table : List ℕ
table = 5 ∷ 2 ∷ 0 ∷ 1 ∷ 3 ∷ 6 ∷ 7 ∷ 4 ∷ 8 ∷ []

-- the map over a whole order
pub maps : List String → List ℕ
maps [] = []
maps (a ∷ l) = place_of a crate_order ∷ maps l

pub table_is : table ≡ maps ieee1164
unfolding maps ieee1164 crate_order place_of
table_is = refl

maps_at : (l : List String) (b : ℕ) → b < length l → get_or (maps l) b 0 ≡ place_of (get_or l b "") crate_order
unfolding maps
maps_at [] b h = absurd (omega arith)
maps_at (a ∷ l) zero h = refl
maps_at (a ∷ l) (suc b) h = maps_at l b (omega arith)

-- what the code finds in the table
pub table_maps : (b : ℕ) → b ≤ 8 → get_or table b 0 ≡ mapped b
unfolding mapped ieee1164
table_maps b h = ap (λ (l : List ℕ). get_or l b 0) table_is ∙ maps_at ieee1164 b (omega arith)

-- the table's entries are the digits of one number, the first the lowest
digits : (b : ℕ) → b ≤ 8 → 0x8_4763_1025 / 2 ^ (b * 4) % 16 ≡ get_or table b 0
digits zero h = refl
digits (suc zero) h = refl
digits (suc (suc zero)) h = refl
digits (suc (suc (suc zero))) h = refl
digits (suc (suc (suc (suc zero)))) h = refl
digits (suc (suc (suc (suc (suc zero))))) h = refl
digits (suc (suc (suc (suc (suc (suc zero)))))) h = refl
digits (suc (suc (suc (suc (suc (suc (suc zero))))))) h = refl
digits (suc (suc (suc (suc (suc (suc (suc (suc zero)))))))) h = refl
digits (suc (suc (suc (suc (suc (suc (suc (suc (suc b))))))))) h = absurd (omega arith)

pub digit_maps : (b : ℕ) → b ≤ 8 → 0x8_4763_1025 / 2 ^ (b * 4) % 16 ≡ mapped b
digit_maps b h = digits b h ∙ table_maps b h

-- the letters that some values stand for in the crate's order
pub letters : List ℕ → List String
letters [] = []
letters (x ∷ l) = get_or crate_order x "" ∷ letters l

-- the same, read as letters: the letters of the table's entries in the crate's order are IEEE 1164's, in its order
pub same_letters : letters table ≡ ieee1164
unfolding letters ieee1164 crate_order
same_letters = refl

-- every entry is at most 8
small : List ℕ → Bool
small [] = true
small (x ∷ l) = cond (leb x 8) (small l) false

small_at : (l : List ℕ) (b : ℕ) → small l ≡ true → get_or l b 0 ≤ 8
unfolding small
small_at [] b h = omega arith
small_at (x ∷ l) b h = go (leb x 8) refl h b (small_at l)
  where
    go : (t : Bool) → leb x 8 ≡ t → cond t (small l) false ≡ true → (b : ℕ) → ((b : ℕ) → small l ≡ true → get_or l b 0 ≤ 8) → get_or (x ∷ l) b 0 ≤ 8
    go true e h zero rec = leb-true x 8 e
    go true e h (suc b) rec = rec b h
    go false e h b rec = absurd (false≢true h)

pub mapped_most : (b : ℕ) → b ≤ 8 → mapped b ≤ 8
unfolding small
mapped_most b h = rw (← table_maps b h) (small_at table b refl)

-- what was mapped comes back
pub unmapped_back : (b : ℕ) → b ≤ 8 → unmapped (mapped b) ≡ b
unfolding unmapped mapped ieee1164 crate_order place_of
unmapped_back zero h = refl
unmapped_back (suc zero) h = refl
unmapped_back (suc (suc zero)) h = refl
unmapped_back (suc (suc (suc zero))) h = refl
unmapped_back (suc (suc (suc (suc zero)))) h = refl
unmapped_back (suc (suc (suc (suc (suc zero))))) h = refl
unmapped_back (suc (suc (suc (suc (suc (suc zero)))))) h = refl
unmapped_back (suc (suc (suc (suc (suc (suc (suc zero))))))) h = refl
unmapped_back (suc (suc (suc (suc (suc (suc (suc (suc zero)))))))) h = refl
unmapped_back (suc (suc (suc (suc (suc (suc (suc (suc (suc b))))))))) h = absurd (omega arith)

-- the table of the way back
abbrev pub inverse : List ℕ
inverse = 2 ∷ 3 ∷ 1 ∷ 4 ∷ 7 ∷ 0 ∷ 5 ∷ 6 ∷ 8 ∷ []

pub inverse_unmaps : (v : ℕ) → v ≤ 8 → get_or inverse v 0 ≡ unmapped v
unfolding unmapped ieee1164 crate_order place_of
inverse_unmaps zero h = refl
inverse_unmaps (suc zero) h = refl
inverse_unmaps (suc (suc zero)) h = refl
inverse_unmaps (suc (suc (suc zero))) h = refl
inverse_unmaps (suc (suc (suc (suc zero)))) h = refl
inverse_unmaps (suc (suc (suc (suc (suc zero))))) h = refl
inverse_unmaps (suc (suc (suc (suc (suc (suc zero)))))) h = refl
inverse_unmaps (suc (suc (suc (suc (suc (suc (suc zero))))))) h = refl
inverse_unmaps (suc (suc (suc (suc (suc (suc (suc (suc zero)))))))) h = refl
inverse_unmaps (suc (suc (suc (suc (suc (suc (suc (suc (suc v))))))))) h = absurd (omega arith)

pub ruleset table_laws = (table_maps, digit_maps)

pub ruleset inverse_laws = (inverse_unmaps)

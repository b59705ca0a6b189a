-- How the listing spells numbers and bytes, and how much of a text a room holds.
-- Assumes nothing.
use Rattle.std.specs.Prelude.{ℕ, zero, suc, ◌/◌, ◌%◌, ◌+◌, ◌≡◌, ◌≤◌, cond, List, [], ◌∷◌, ◌++◌, ltb, length, take}
use Rattle.slices.specs.Splice.{splice}
pub mod Laws
pub mod Digits

-- the ASCII code of a digit: `0` to `9`, then `a` to `f`
unfoldable pub digit : ℕ → ℕ
digit d = cond (ltb d 10) (48 + d) (87 + d)

-- a decimal: the digits of a tenth of it, then its last
unfoldable pub decimal_of : (most : ℕ) → ℕ → List ℕ
decimal_of zero n = []
decimal_of (suc most) n = cond (ltb n 10) (digit n ∷ []) (decimal_of most (n / 10) ++ (digit (n % 10) ∷ []))

-- a number of 64 bits has at most twenty digits
unfoldable pub decimal : ℕ → List ℕ
decimal n = decimal_of 20 n

-- "Hex is lower-case, unspaced": two digits for each byte
unfoldable pub hex : List ℕ → List ℕ
hex [] = []
hex (b ∷ bs) = digit (b / 16) ∷ digit (b % 16) ∷ hex bs

-- a length that lies within a room, which is that of the room's part up to there
abbrev pub IsPrefixLen : ℕ → List ℕ → Type 0
IsPrefixLen n room = (n ≤ length room) × (n ≡ length (take n room))

-- as much of `l` as fits stands at the start of the room, which is as it was behind it; `n` says how much
pub record Holds (room l room' : List ℕ) (n : ℕ) : Type 0 where
  pub text : room' ≡ splice room 0 (take (length room) l)
  pub count : n ≡ length (take (length room) l)

-- all of `l` stands there
pub record Prints (room l room' : List ℕ) (n : ℕ) : Type 0 where
  pub text : room' ≡ splice room 0 l
  pub count : n ≡ length l

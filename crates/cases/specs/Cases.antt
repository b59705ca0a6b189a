-- Text in parts, and the numbers that it spells.
-- Assumes nothing.
use Rattle.std.specs.Prelude.{◌≡◌, ℕ, zero, suc, ◌+◌, ◌-◌, ◌*◌, ◌/◌, ◌%◌, ◌<◌, min, cond, List, [], ◌∷◌, length, get_or, eqb, ltb}
pub mod Laws
pub mod Code

-- up to the first `b`
unfoldable pub before : ℕ → List ℕ → List ℕ
before b [] = []
before b (x ∷ l) = cond (eqb x b) [] (x ∷ before b l)

-- what comes after the first `b`
unfoldable pub after : ℕ → List ℕ → List ℕ
after b [] = []
after b (x ∷ l) = cond (eqb x b) l (after b l)

-- the parts that `b` stands between, from 0 on
unfoldable pub part : ℕ → ℕ → List ℕ → List ℕ
part b zero l = before b l
part b (suc k) l = part b k (after b l)

-- how many there are, of which the last may be left empty
unfoldable pub parts : ℕ → List ℕ → ℕ
parts b [] = 0
parts b (x ∷ []) = 1
parts b (x ∷ y ∷ l) = cond (eqb x b) (suc (parts b (y ∷ l))) (parts b (y ∷ l))

-- 0 to 9 and a to f
unfoldable pub digit : ℕ → ℕ
digit c = cond (ltb c 58) (c - 48) ((c - 87) % 16)

-- decimal digits after those of `v`; of a number past 60 bits the lower ones go on
unfoldable pub spelled : ℕ → List ℕ → ℕ
spelled v [] = v
spelled v (c ∷ l) = spelled (v % 1152921504606846976 * 10 + digit c) l

-- the first `r` of a room hold the 32 lower bits of each number between spaces: of all, or of as many as there is room for
pub record Listed (s out : List ℕ) (r : ℕ) : Type 0 where
  pub many : r ≡ min (length out) (parts 32 s)
  pub each : (k : ℕ) → k < r → get_or out k 0 ≡ spelled 0 (part 32 k s) % 4294967296

-- the byte of the pair number `k`
unfoldable pub pair_at : List ℕ → ℕ → ℕ
pair_at s k = digit (get_or s (2 * k) 0) * 16 + digit (get_or s (2 * k + 1) 0)

pub record Unhexed (s out : List ℕ) (r : ℕ) : Type 0 where
  pub many : r ≡ min (length out) (length s / 2)
  pub each : (k : ℕ) → k < r → get_or out k 0 ≡ pair_at s k

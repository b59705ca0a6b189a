-- What each operation on the room's bytes does to the fields: it changes those that it names, and no other.
-- Assumes nothing.
use Rattle.std.specs.Prelude.{ℕ, cond, eqb}

-- bit b of vector v becomes x
abbrev pub put : ℕ → ℕ → ℕ → (ℕ → ℕ → ℕ) → ℕ → ℕ → ℕ
put v b x f w c = cond (eqb w v) (cond (eqb c b) x (f w c)) (f w c)

-- that of v becomes x
abbrev pub puts : ℕ → ℕ → (ℕ → ℕ) → ℕ → ℕ
puts v x h w = cond (eqb w v) x (h w)

-- the marks of v become 0
abbrev pub clears : ℕ → (ℕ → ℕ → ℕ) → ℕ → ℕ → ℕ
clears v m w c = cond (eqb w v) 0 (m w c)

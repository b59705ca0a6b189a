-- How many places of the bench are taken, and how that changes with one place.
-- Assumes nothing.
use Prim.Native.Nat.{ℕ, zero, suc, ◌+◌}
use Rattle.std.specs.Prelude.{cond}
use Rattle.sessions.specs.declared.Bench.{Bench}
use Rattle.sessions.specs.Places.{is_free}

-- 1 where a place is taken
abbrev pub taken : Bench → ℕ → ℕ
taken b k = cond (is_free b k) 0 1

unfoldable pub taken_from : Bench → (n k : ℕ) → ℕ
taken_from b zero k = 0
taken_from b (suc n) k = taken b k + taken_from b n (suc k)

abbrev pub live : Bench → ℕ
live b = taken_from b 32 0

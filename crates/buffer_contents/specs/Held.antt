-- What a buffer holds: some bytes and zeros after them, or zeros alone.
-- Assumes nothing.
use Rattle.std.specs.Prelude.{ℕ, ◌-◌, Bool, List, ◌++◌, length, replicate}
use Rattle.numbers.specs.Marks.{same}
pub mod Laws
pub mod Code

-- whether an output holds these bytes, and zeros after them
unfoldable pub is_held : List ℕ → List ℕ → Bool
is_held out want = same out (want ++ replicate (length out - length want) 0)

-- whether a list holds zeros alone
unfoldable pub is_zero : List ℕ → Bool
is_zero l = same l (replicate (length l) 0)

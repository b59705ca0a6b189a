-- Bytes, or numbers, in place of others, and a part of some.
-- Assumes nothing.
use Rattle.std.specs.Prelude.{ℕ, ◌+◌, List, ◌++◌, length, take, drop}
pub mod Laws
pub mod Writes

-- `l` with `bs` in place of what stands from `at` on
unfoldable pub splice : {X : Type 0} → List X → ℕ → List X → List X
splice l at bs = take at l ++ (bs ++ drop (at + length bs) l)

-- `n` of `s` from `from` on
unfoldable pub part : List ℕ → ℕ → ℕ → List ℕ
part s from n = take n (drop from s)

-- The signal and vector tables, as the seven flat lists that a host lends.
-- Assumes nothing.
use Rattle.std.specs.Prelude.{ℕ, List, ◌∷◌, length, get_or}

-- "Signals have ids 1..n. Each has a kind, a reference, and a vector number (0 for none). Vectors have numbers 1..V; each has min id, max id, state and reference."
pub record Lists : Type 0 where
  pub kinds : List ℕ
  pub refs : List ℕ
  pub vecs : List ℕ
  pub mins : List ℕ
  pub maxs : List ℕ
  pub states : List ℕ
  pub vec_refs : List ℕ

-- the entry of an id or of a vector number; number 0 has none
unfoldable pub nth : List ℕ → ℕ → ℕ
nth l i = get_or (0 ∷ l) i 0

-- n and V
unfoldable pub signals : Lists → ℕ
signals t = length t.kinds

unfoldable pub vectors : Lists → ℕ
vectors t = length t.mins

abbrev pub lists : (kinds refs vecs mins maxs states vec_refs : List ℕ) → Lists
lists kinds refs vecs mins maxs states vec_refs = record { kinds = kinds; refs = refs; vecs = vecs; mins = mins; maxs = maxs; states = states; vec_refs = vec_refs }

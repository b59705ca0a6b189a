-- The places of the bench: "The bench state holds at most 32 live sessions and their counts." A place is free where its count is 0, for a live session has counted a fragment.
-- Assumes nothing.
use Rattle.std.specs.Prelude.{ℕ, zero, suc, ◌+◌, Bool, not, cond, ◌&&◌, get_or, set, replicate, ltb, eqb}
use Rattle.sessions.specs.declared.Bench.{Bench}
pub mod Laws
pub mod Code

-- the lowest number from i on, of n, of which it is true; i + n where it is of none
unfoldable pub lowest : (ℕ → Bool) → (n i : ℕ) → ℕ
lowest p zero i = i
lowest p (suc n) i = cond (p i) i (lowest p n (suc i))

unfoldable pub is_free : Bench → ℕ → Bool
is_free b k = eqb (get_or b.counts k 0) 0

-- a session is live at a place
unfoldable pub is_at : Bench → (session : ℕ) → ℕ → Bool
is_at b session k = not (is_free b k) && eqb (get_or b.sessions k 0) session

-- the place of a session; 32 where it isn't live
abbrev pub place_of : Bench → (session : ℕ) → ℕ
place_of b session = lowest (is_at b session) 32 0

-- the lowest place that is free; 32 where none is
abbrev pub free_place : Bench → ℕ
free_place b = lowest (is_free b) 32 0

-- where a session's fragment is counted: its own place, or a free one; 32 "when a new session meets 32 live ones"
unfoldable pub place_for : Bench → (session : ℕ) → ℕ
place_for b session = cond (ltb (place_of b session) 32) (place_of b session) (free_place b)

-- "one fragment is counted to the session value then shown"
unfoldable pub counted : Bench → (k session : ℕ) → Bench
counted b k session = record { sessions = set b.sessions k session; counts = set b.counts k (get_or b.counts k 0 + 1) }

-- ".. dropped .. and its place is used again"
unfoldable pub dropped : Bench → ℕ → Bench
dropped b k = record { sessions = b.sessions; counts = set b.counts k 0 }

abbrev pub empty : Bench
empty = record { sessions = replicate 32 0; counts = replicate 32 0 }

-- The bench's entry: the answer and what the output holds at the end, from the inputs alone.
-- Assumes nothing.
use Rattle.std.specs.Prelude.{ℕ, Bool, not, cond, ◌&&◌, List, length, eqb}
use Rattle.tables.specs.Checks.{within_limit}
use Rattle.step_ends.specs.declared.Names.{Names}
use Rattle.fragments.specs.Counting.{count_fragments}
use Rattle.answers.specs.Outcome.{Outcome, refused, LeftKept, leaves_kept}
use Rattle.answers.specs.Filled.{filled}
pub mod Laws
pub mod Unique
pub mod Rows

-- "1: buffer over its limit"
unfoldable pub limits_of : (events values : List ℕ) → (room : ℕ) → Bool
limits_of events values room = within_limit (length events) && within_limit (length values) && within_limit room

-- "34 two references equal"
unfoldable pub apart : (session strobe close : ℕ) → Bool
apart session strobe close = not (eqb session strobe) && not (eqb session close) && not (eqb strobe close)

abbrev pub named : (session strobe close : ℕ) → Names
named session strobe close = record { session = session; strobe = strobe; close = close }

-- ".. (place 0, after 1)"
unfoldable pub benched : (events values : List ℕ) → (session strobe close room : ℕ) → Outcome
benched events values session strobe close room =
    cond (limits_of events values room) (cond (apart session strobe close) (filled (count_fragments (named session strobe close) events values room)) (refused 34 0)) (refused 1 0)

unfoldable pub bench : (events values : List ℕ) → (session strobe close room : ℕ) → LeftKept
bench events values session strobe close room = leaves_kept room (benched events values session strobe close room)

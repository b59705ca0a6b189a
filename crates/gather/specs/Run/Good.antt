-- Tables that pass the checks are good for the gatherer.
-- Assumes nothing.
use Rattle.std.specs.Prelude.{ℕ, ◌≡◌}
use Rattle.tables.specs.Lists.{Lists}
use Rattle.tables.specs.Checks.{checks}
use Rattle.tables.specs.Check.{Passed}
use Rattle.tables.specs.Good.Laws.{good, in_range}
use Rattle.rules.specs.Gather.{Good}
use Rattle.gather.specs.Run.{gathers}

pub gathers_good : (t : Lists) (input events values room list : ℕ) → checks t input events values room list ≡ Passed → Good (gathers t)
unfolding Good gathers
gathers_good t input events values room list e = let g = good t input events values room list e in in_range g.sized g.signals

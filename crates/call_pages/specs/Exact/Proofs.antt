-- How a call ends that fills its room with its course.
-- Assumes nothing.
use Rattle.std.specs.Prelude.{ℕ, ◌-◌}
use mathlib.Core.List.{[]}
use Rattle.tables.specs.Check.{Check}
use Rattle.answers.specs.Outcome.{Outcome}
use Rattle.answers.specs.Filled.{filled}
use Rattle.entries.specs.Entries.{checked}
use Rattle.courses.specs.Course.{Course, fill}

-- how a call ends that fills its room with its course
abbrev pub calls : Check → (room : ℕ) → Course → Outcome
calls k room c = checked k (filled (fill room c []))

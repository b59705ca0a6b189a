-- What comes next in a trace: the first event of a vector, and events up to a step's end.
-- Assumes nothing.
use Rattle.std.specs.Prelude.{ℕ, List}
use Rattle.rules.specs.Gather.{of}
use Rattle.demand3_bytes.specs.Statements.{Labelled, Moment, is_step_end, Without, First}

-- ---- the first event of a vector

abbrev pub Comes : ℕ → List Moment → Type 0
Comes v b = (m : List Moment) × (r : Labelled) × (rest : List Moment) × First v b m r rest × Without is_step_end m

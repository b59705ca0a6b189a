-- What is left of the rows grows less.
use Rattle.std.proofs.Common.{◌-◌, ◌≤◌}
use Rattle.run_replay.proofs.tally.show_rows.Given as goal

abbrev pub invariant-loop-row : goal.invariant-loop-row
invariant-loop-row g l = l.row ≤ 22

abbrev pub decreases-loop-row : goal.decreases-loop-row
decreases-loop-row g l = 22 - l.row

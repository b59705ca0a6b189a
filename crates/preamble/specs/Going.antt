-- A turn of the loop: it goes on from a place, or the reading ends.
-- Assumes nothing.
use Rattle.std.proofs.Common.{ControlFlow}
use Rattle.preamble.specs.Opened.{OpenedFound}
use Rattle.preamble.specs.declared.Progress.{Progress}

abbrev pub Turn : Type 0
Turn = ControlFlow OpenedFound Progress

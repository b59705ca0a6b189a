-- A turn of the loop: it goes on from a place, or the call ends.
-- Assumes nothing.
use Rattle.std.proofs.Common.{ControlFlow}
use Rattle.number_writer.specs.Written.{Written}
use Rattle.read_back.specs.declared.Progress.{Progress}

abbrev pub Turn : Type 0
Turn = ControlFlow Written Progress

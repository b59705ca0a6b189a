-- A turn of the loop: it goes on from a place, or the call ends.
-- Assumes nothing.
use Rattle.std.proofs.Common.{ControlFlow}
use Rattle.number_writer.specs.Written.{Written}
use Rattle.fragments.specs.declared.Progress.{Progress}

abbrev pub Going : Type 0
Going = ControlFlow Written Progress

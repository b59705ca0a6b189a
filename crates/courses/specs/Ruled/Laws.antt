-- How the time rule ends, as the other calls with one output end.
-- Assumes nothing.
use Prim.Native.Nat.{◌-◌}
use Rattle.number_writer.specs.Ended.{Ended}
use Rattle.number_writer.specs.Ended as ended
use Rattle.encoder.specs.Rule.{Ruled, one}
use Rattle.encoder.specs.Rule as rules
use Rattle.courses.specs.Ruled.{ruled}

-- how a stream ends, as the other calls with one output end
unfoldable pub ended_of : Ruled → Ended
ended_of (rules.ruled i k) = ended.wrote i k.events k.steps
ended_of (rules.refused n p) = ended.refused n p

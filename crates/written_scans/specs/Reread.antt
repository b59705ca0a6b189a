-- The acts of an input, its places aside.
-- Assumes nothing.
use Rattle.rules.specs.Gather.{Act, time, write, step_end}
use Rattle.rules.specs.Scan.{Scan, say, done, fault}
use Rattle.gather.specs.Run.{Went, went, out}
pub mod Same
pub mod Known
pub mod Stands
pub mod Scanned
pub mod Back
pub mod Events
pub mod Spelled
pub mod Stream
pub mod Refused

-- an act, and all acts and how the input ended, without the places
unfoldable pub bare_act : Act → Act
bare_act (time u) = time u
bare_act (write id v p) = write id v 0
bare_act step_end = step_end

unfoldable pub bare : Scan → Scan
bare (say a p r) = say (bare_act a) 0 (bare r)
bare (done i) = done 0
bare (fault n p) = fault n p

-- how a reading ended, its places aside: the gatherer and the rooms, or the number of a refusal
unfoldable pub bare_went : Went → Went
bare_went (went i g o) = went 0 g o
bare_went (out n p) = out n 0

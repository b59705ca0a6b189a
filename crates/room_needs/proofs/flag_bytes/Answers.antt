-- Written by tools/proof-answers from proofs.map.
use Rattle.std.proofs.Common.{rules}
use Rattle.tables.specs.Checks.Loops.{room_laws}
use Rattle.room_needs.proofs.flag_bytes.Goals as goal

pub returns : goal.returns
returns c = search (room_laws, rules)

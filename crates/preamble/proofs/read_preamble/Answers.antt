-- Written by tools/proof-answers from proofs.map.
use Rattle.std.proofs.Common.{rules}
use Rattle.preamble.specs.Preamble.Loop.{loop_laws}
use Rattle.preamble.proofs.read_preamble.Goals as goal

pub loop-q-init : goal.loop-q-init
loop-q-init c = search (loop_laws, rules)

-- Written by tools/proof-answers from proofs.map.
use Rattle.std.proofs.Common.{rules}
use Rattle.left_buffers.specs.Left.{accepted_laws}
use Rattle.left_buffers.proofs.accept.Goals as goal

pub returns : goal.returns
returns c = search (accepted_laws, rules)

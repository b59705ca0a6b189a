-- Written by tools/proof-answers from proofs.map.
use Rattle.std.proofs.Common.{rules}
use Rattle.left_buffers.specs.Left.{refused_laws}
use Rattle.left_buffers.proofs.refuse_used.Goals as goal

pub returns : goal.returns
returns c = search (refused_laws, rules)

-- Written by tools/proof-answers from proofs.map.
use Rattle.std.proofs.Common.{rules}
use Rattle.left_buffers.specs.Left.{refused_laws}
use Rattle.reading_ends.proofs.refuse.Goals as goal

pub refuse_used-requires : goal.refuse_used-requires
refuse_used-requires c = search (refused_laws, rules)

-- Written by tools/proof-answers from proofs.map.
use Rattle.std.proofs.Common.{rules}
use Rattle.preamble.specs.Preamble.Code.{item_laws}
use Rattle.preamble.proofs.vector_at.Goals as goal

pub returns : goal.returns
returns c = search (item_laws, rules)

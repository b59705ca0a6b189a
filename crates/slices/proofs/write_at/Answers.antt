-- Written by tools/proof-answers from proofs.map.
use Rattle.std.proofs.Common.{rules}
use Rattle.slices.specs.Splice.Writes.{write_laws}
use Rattle.slices.proofs.write_at.Goals as goal

pub returns : goal.returns
returns c = search (write_laws, rules)

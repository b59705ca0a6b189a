-- Written by tools/proof-answers from proofs.map.
use Rattle.std.proofs.Common.{rules}
use Rattle.plain_writes.specs.Plain.Code.{alone_laws}
use Rattle.plain_writes.proofs.write_alone.Goals as goal

pub returns : goal.returns
returns c = search (alone_laws, rules)

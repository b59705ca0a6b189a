-- Written by tools/proof-answers from proofs.map.
use Rattle.std.proofs.Common.{rules}
use Rattle.plain_writes.specs.Plain.Code.{at_laws}
use Rattle.plain_writes.proofs.write_plain.Goals as goal

pub write_alone-requires : goal.write_alone-requires
write_alone-requires c = search (at_laws, rules)

pub returns : goal.returns
returns c = search (at_laws, rules)

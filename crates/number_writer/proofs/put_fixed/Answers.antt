-- Written by tools/proof-answers from proofs.map.
use Rattle.std.proofs.Common.{rules}
use Rattle.number_writer.specs.Little.Code.{eight_laws}
use Rattle.number_writer.proofs.put_fixed.Goals as goal

pub returns-then-big_endian : goal.returns-then-big_endian
returns-then-big_endian c = search (eight_laws, rules)

pub returns-else-big_endian : goal.returns-else-big_endian
returns-else-big_endian c = search (eight_laws, rules)

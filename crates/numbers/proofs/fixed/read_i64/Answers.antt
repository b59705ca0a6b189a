-- Written by tools/proof-answers from proofs.map.
use Rattle.std.proofs.Common.{rules}
use Rattle.numbers.specs.Fixed.Code.{fixed_laws}
use Rattle.numbers.proofs.fixed.read_i64.Goals as goal

pub returns-then-big_endian : goal.returns-then-big_endian
returns-then-big_endian c = search (fixed_laws, rules)

pub returns-else-big_endian : goal.returns-else-big_endian
returns-else-big_endian c = search (fixed_laws, rules)

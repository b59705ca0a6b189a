-- Written by tools/proof-answers from proofs.map.
use Rattle.std.proofs.Common.{rules}
use Rattle.numbers.specs.Fixed.Code.{fixed_laws}
use Rattle.numbers.proofs.fixed.little_u32.Goals as goal

pub returns : goal.returns
returns c = search (fixed_laws, rules)

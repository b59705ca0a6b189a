-- Written by tools/proof-answers from proofs.map.
use Rattle.std.proofs.Common.{rules}
use Rattle.numbers.specs.Fixed.Code.{house_laws}
use Rattle.numbers.proofs.house.put_u64.Goals as goal

pub returns : goal.returns
returns c = search (house_laws, rules)

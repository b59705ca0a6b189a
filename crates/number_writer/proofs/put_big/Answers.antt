-- Written by tools/proof-answers from proofs.map.
use Rattle.std.proofs.Common.{rules}
use Rattle.number_writer.specs.Little.Code.{eight_laws}
use Rattle.number_writer.proofs.put_big.Goals as goal

pub returns : goal.returns
returns c = search (eight_laws, rules)

-- Written by tools/proof-answers from proofs.map.
use Rattle.std.proofs.Common.{rules}
use Rattle.number_writer.specs.Code.{front_laws}
use Rattle.number_writer.proofs.put_front.Goals as goal

pub returns-then-out-count : goal.returns-then-out-count
returns-then-out-count c = search (front_laws, rules)

pub returns-then-out-count-2 : goal.returns-then-out-count-2
returns-then-out-count-2 c = search (front_laws, rules)

pub returns : goal.returns
returns c = search (front_laws, rules)

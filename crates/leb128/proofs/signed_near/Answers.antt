-- Written by tools/proof-answers from proofs.map.
use Rattle.std.proofs.Common.{rules}
use Rattle.leb128.specs.Leb128.Code.{near_laws}
use Rattle.leb128.proofs.signed_near.Goals as goal

pub returns-then-a-lt128 : goal.returns-then-a-lt128
returns-then-a-lt128 c = search (near_laws, rules)

pub returns-then-b-lt128 : goal.returns-then-b-lt128
returns-then-b-lt128 c = search (near_laws, rules)

pub returns-then-c-lt128 : goal.returns-then-c-lt128
returns-then-c-lt128 c = search (near_laws, rules)

pub returns-then-d-lt128 : goal.returns-then-d-lt128
returns-then-d-lt128 c = search (near_laws, rules)

-- Written by tools/proof-answers from proofs.map.
use Rattle.std.proofs.Common.{rules}
use Rattle.read_back.specs.ReadBack.Turn.{head_laws}
use Rattle.read_back.proofs.put_head.Goals as goal

pub returns-in_err-next : goal.returns-in_err-next
returns-in_err-next c = let was = c.in_err-next.was in rw c.from_residual.ensures (search (head_laws, rules))

pub returns : goal.returns
returns c = let was = c.in_ok-next.was in search (head_laws, rules)

-- Written by tools/proof-answers from proofs.map.
use Rattle.std.proofs.Common.{rules}
use Rattle.read_back.specs.ReadBack.Turn.{time_laws}
use Rattle.read_back.proofs.put_time_record.Goals as goal

pub returns-in_err-next : goal.returns-in_err-next
returns-in_err-next c = let was = c.in_err-next.was in rw c.from_residual.ensures (search (time_laws, rules))

pub returns : goal.returns
returns c = let was = c.in_ok-next.was in search (time_laws, rules)

-- Written by tools/proof-answers from proofs.map.
use Rattle.std.proofs.Common.{rules}
use Rattle.read_back.specs.ReadBack.Turn.{write_byte_laws}
use Rattle.read_back.proofs.put_byte_write.Goals as goal

pub returns-in_err-next : goal.returns-in_err-next
returns-in_err-next c = let was = c.in_err-next.was in rw c.from_residual.ensures (search (write_byte_laws, rules))

pub returns : goal.returns
returns c = let was = c.in_ok-next.was in search (write_byte_laws, rules)

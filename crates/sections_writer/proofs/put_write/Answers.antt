-- Written by tools/proof-answers from proofs.map.
use Rattle.std.proofs.Common.{rules}
use Rattle.sections_writer.specs.Writer.Turn.{write_laws}
use Rattle.sections_writer.proofs.put_write.Goals as goal

pub returns-in_err-value_at : goal.returns-in_err-value_at
returns-in_err-value_at c = let was = c.in_err-value_at.was in rw c.from_residual.ensures (search (write_laws, rules))

pub returns : goal.returns
returns c = let was = c.in_ok-value_at.was in search (write_laws, rules)

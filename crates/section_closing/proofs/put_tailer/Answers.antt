-- Written by tools/proof-answers from proofs.map.
use Rattle.std.proofs.Common.{rules}
use Rattle.sections_writer.specs.Writer.Turn.{tailer_laws}
use Rattle.section_closing.proofs.put_tailer.Goals as goal

pub returns-in_err-next : goal.returns-in_err-next
returns-in_err-next c = let was = c.in_err-next.was in rw c.from_residual.ensures (search (tailer_laws, rules))

pub returns : goal.returns
returns c = let was = c.in_ok-next.was in search (tailer_laws, rules)

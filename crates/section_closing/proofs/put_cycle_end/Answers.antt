-- Written by tools/proof-answers from proofs.map.
use Rattle.std.proofs.Common.{rules}
use Rattle.sections_writer.specs.Writer.Turn.{cycle_laws}
use Rattle.section_closing.proofs.put_cycle_end.Goals as goal

pub returns-then-pen-eq0 : goal.returns-then-pen-eq0
returns-then-pen-eq0 c = search (cycle_laws, rules)

pub returns-in_err-next : goal.returns-in_err-next
returns-in_err-next c = let was = c.in_err-next.was in rw c.from_residual.ensures (search (cycle_laws, rules))

pub returns : goal.returns
returns c = let was = c.in_ok-next.was in search (cycle_laws, rules)

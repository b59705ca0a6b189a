-- Written by tools/proof-answers from proofs.map.
use Rattle.std.proofs.Common.{rules}
use Rattle.sections_writer.specs.Writer.Turn.{time_laws}
use Rattle.sections_writer.proofs.put_time.Goals as goal

pub returns-then-pen-eq0 : goal.returns-then-pen-eq0
returns-then-pen-eq0 c = search (time_laws, rules)

pub overflow_sub-u : goal.overflow_sub-u
overflow_sub-u c = search (time_laws, rules)

pub returns : goal.returns
returns c = search (time_laws, rules)

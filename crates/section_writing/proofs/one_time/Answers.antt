-- Written by tools/proof-answers from proofs.map.
use Rattle.std.proofs.Common.{rules}
use Rattle.sections_writer.specs.Writer.Turn.{does_laws}
use Rattle.section_writing.proofs.one_time.Goals as goal

pub returns-then-time_good : goal.returns-then-time_good
returns-then-time_good c = search (does_laws, rules)

pub returns : goal.returns
returns c = search (does_laws, rules)

-- Written by tools/proof-answers from proofs.map.
use Rattle.std.proofs.Common.{rules}
use Rattle.sections_writer.specs.Writer.Turn.{does_laws}
use Rattle.section_writing.proofs.one_step_end.Goals as goal

pub returns : goal.returns
returns c = search (does_laws, rules)

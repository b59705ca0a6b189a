-- Written by tools/proof-answers from proofs.map.
use Rattle.std.proofs.Common.{rules}
use Rattle.sections_writer.specs.Writer.Turn.{does_laws}
use Rattle.section_writing.proofs.one_write.Goals as goal

pub returns-then-pen-id : goal.returns-then-pen-id
returns-then-pen-id c = search (does_laws, rules)

pub returns : goal.returns
returns c = search (does_laws, rules)

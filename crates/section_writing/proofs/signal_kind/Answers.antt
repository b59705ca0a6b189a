-- Written by tools/proof-answers from proofs.map.
use Rattle.std.proofs.Common.{rules}
use Rattle.sections_writer.specs.Writer.Loop.{record_laws}
use Rattle.section_writing.proofs.signal_kind.Goals as goal

pub returns : goal.returns
returns c = search (record_laws, rules)

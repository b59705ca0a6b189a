-- Written by tools/proof-answers from proofs.map.
use Rattle.std.proofs.Common.{rules}
use Rattle.answer_lines.specs.Told.Code.{told_laws}
use Rattle.answer_lines.proofs.answer_line.Goals as goal

pub returns : goal.returns
returns c = search (told_laws, rules)

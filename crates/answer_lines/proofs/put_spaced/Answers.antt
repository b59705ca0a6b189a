-- Written by tools/proof-answers from proofs.map.
use Rattle.std.proofs.Common.{rules}
use Rattle.answer_lines.specs.Told.Code.{spaced_laws}
use Rattle.answer_lines.proofs.put_spaced.Goals as goal

pub returns : goal.returns
returns c = search (spaced_laws, rules)

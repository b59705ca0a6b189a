-- Written by tools/proof-answers from proofs.map.
use Rattle.std.proofs.Common.{rules}
use Rattle.answer_lines.specs.Told.Code.{numbers_laws}
use Rattle.answer_lines.proofs.put_numbers.Goals as goal

pub returns : goal.returns
returns c = search (numbers_laws, rules)

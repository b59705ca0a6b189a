-- Written by tools/proof-answers from proofs.map.
use Rattle.std.proofs.Common.{rules}
use Rattle.answer_lines.specs.Told.Code.{pair_laws}
use Rattle.answer_lines.proofs.put_pair.Goals as goal

pub returns : goal.returns
returns c = search (pair_laws, rules)

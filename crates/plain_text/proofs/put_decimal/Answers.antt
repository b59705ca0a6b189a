-- Written by tools/proof-answers from proofs.map.
use Rattle.std.proofs.Common.{rules}
use Rattle.plain_text.specs.Text.Laws.{number_laws}
use Rattle.plain_text.proofs.put_decimal.Goals as goal

pub returns : goal.returns
returns c = search (number_laws, rules)

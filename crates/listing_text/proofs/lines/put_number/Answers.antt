-- Written by tools/proof-answers from proofs.map.
use Rattle.std.proofs.Common.{rules}
use Rattle.listing_text.specs.Lines.Code.{number_laws}
use Rattle.listing_text.proofs.lines.put_number.Goals as goal

pub returns : goal.returns
returns c = search (number_laws, rules)

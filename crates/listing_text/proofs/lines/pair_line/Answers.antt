-- Written by tools/proof-answers from proofs.map.
use Rattle.std.proofs.Common.{rules}
use Rattle.listing_text.specs.Lines.Code.{pair_laws}
use Rattle.listing_text.proofs.lines.pair_line.Goals as goal

pub returns : goal.returns
returns c = search (pair_laws, rules)

-- Written by tools/proof-answers from proofs.map.
use Rattle.std.proofs.Common.{rules}
use Rattle.listing_text.specs.Lines.Code.{hex_laws}
use Rattle.listing_text.proofs.lines.hex_line.Goals as goal

pub returns : goal.returns
returns c = search (hex_laws, rules)

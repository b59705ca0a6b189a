-- Written by tools/proof-answers from proofs.map.
use Rattle.std.proofs.Common.{rules}
use Rattle.listing_text.specs.Lines.Code.{real_laws}
use Rattle.listing_text.proofs.lines.real_line.Goals as goal

pub returns : goal.returns
returns c = search (real_laws, rules)

-- Written by tools/proof-answers from proofs.map.
use Rattle.std.proofs.Common.{rules}
use Rattle.listing_text.specs.Lines.Code.{time_laws}
use Rattle.listing_text.proofs.lines.time_line.Goals as goal

pub returns : goal.returns
returns c = search (time_laws, rules)

-- Written by tools/proof-answers from proofs.map.
use Rattle.std.proofs.Common.{rules}
use Rattle.listing_text.specs.Lines.Code.{lines_laws}
use Rattle.listing_text.proofs.lines.event_lines.Goals as goal

pub loop-next-init : goal.loop-next-init
loop-next-init c = search (lines_laws, rules)

pub loop-next-smaller : goal.loop-next-smaller
loop-next-smaller c = search (lines_laws, rules)

pub loop-next-preserved : goal.loop-next-preserved
loop-next-preserved c = search (lines_laws, rules)

pub returns : goal.returns
returns c = search (lines_laws, rules)

-- Written by tools/proof-answers from proofs.map.
use Rattle.std.proofs.Common.{rules}
use Rattle.listing_text.specs.Lines.Code.{event_laws}
use Rattle.listing_text.proofs.lines.event_line.Goals as goal

pub slice_bounds-value_line-end : goal.slice_bounds-value_line-end
slice_bounds-value_line-end c = search (event_laws, rules)

pub returns-in-Time : goal.returns-in-Time
returns-in-Time c = search (event_laws, rules)

pub returns-in-Value : goal.returns-in-Value
returns-in-Value c = search (event_laws, rules)

pub returns-in-Real : goal.returns-in-Real
returns-in-Real c = search (event_laws, rules)

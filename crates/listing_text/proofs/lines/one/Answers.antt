-- Written by tools/proof-answers from proofs.map.
use Rattle.std.proofs.Common.{rules}
use Rattle.listing_text.specs.Lines.Code.{one_laws}
use Rattle.slices.specs.Exit.{ok_at}
use Rattle.listing_text.proofs.lines.one.Goals as goal

pub event_line-requires : goal.event_line-requires
event_line-requires c = search (one_laws, rules)

pub returns-in-Ok-None : goal.returns-in-Ok-None
returns-in-Ok-None c = search (one_laws, ok_at, rules)

pub returns-in-Err : goal.returns-in-Err
returns-in-Err c = search (one_laws, rules)

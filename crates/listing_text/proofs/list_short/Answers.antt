-- Written by tools/proof-answers from proofs.map.
use Rattle.std.proofs.Common.{rules}
use Rattle.listing_text.specs.Listing.Code.{short_laws}
use Rattle.listing_text.proofs.list_short.Goals as goal

pub returns-in-Ok : goal.returns-in-Ok
returns-in-Ok c = search (short_laws, rules)

pub returns-in-Err : goal.returns-in-Err
returns-in-Err c = search (short_laws, rules)

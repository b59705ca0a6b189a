-- Written by tools/proof-answers from proofs.map.
use Rattle.std.proofs.Common.{rules}
use Rattle.listing_text.specs.Listing.Code.{tell_laws}
use Rattle.listing_text.proofs.tell.Goals as goal

pub returns-then-a-ne0 : goal.returns-then-a-ne0
returns-then-a-ne0 c = search (tell_laws, rules)

pub returns : goal.returns
returns c = search (tell_laws, rules)

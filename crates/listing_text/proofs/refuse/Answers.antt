-- Written by tools/proof-answers from proofs.map.
use Rattle.std.proofs.Common.{rules}
use Rattle.listing_text.specs.Listing.Code.{refuse_laws}
use Rattle.listing_text.proofs.refuse.Goals as goal

pub returns : goal.returns
returns c = search (refuse_laws, rules)

-- Written by tools/proof-answers from proofs.map.
use Rattle.std.proofs.Common.{rules}
use Rattle.listing_text.specs.Listing.Code.{list_laws}
use Rattle.listing_text.proofs.list.Goals as goal

pub returns-then-input-gt32768-clause-holds : goal.returns-then-input-gt32768-clause-holds
returns-then-input-gt32768-clause-holds c = search (list_laws, rules)

pub returns-clause-holds : goal.returns-clause-holds
returns-clause-holds c = search (list_laws, rules)

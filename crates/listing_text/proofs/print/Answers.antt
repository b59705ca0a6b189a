-- Written by tools/proof-answers from proofs.map.
use Rattle.std.proofs.Common.{rules}
use Rattle.listing_text.specs.Listing.Length.{print_laws}
use Rattle.listing_text.proofs.print.Goals as goal

pub returns-clause-prints : goal.returns-clause-prints
returns-clause-prints c = search (print_laws, rules)

-- Written by tools/proof-answers from proofs.map.
use Rattle.std.proofs.Common.{rules}
use Rattle.listing_text.specs.Listing.Code.{section_laws}
use Rattle.listing_text.proofs.list_sections.Goals as goal

pub returns : goal.returns
returns c = search (section_laws, rules)

-- Written by tools/proof-answers from proofs.map.
use Rattle.std.proofs.Common.{rules}
use Rattle.reading_ends.specs.Reading.{start_laws}
use Rattle.reading_ends.proofs.start.Goals as goal

pub clear_used-requires : goal.clear_used-requires
clear_used-requires c = search (start_laws, rules)

-- Written by tools/proof-answers from proofs.map.
use Rattle.std.proofs.Common.{rules}
use Rattle.reading_ends.specs.Reading.{finish_laws}
use Rattle.reading_ends.proofs.finish.Goals as goal

pub returns-in-Went : goal.returns-in-Went
returns-in-Went c = search (finish_laws, rules)

pub returns-in-Out : goal.returns-in-Out
returns-in-Out c = search (finish_laws, rules)

-- Written by tools/proof-answers from proofs.map.
use Rattle.std.proofs.Common.{rules}
use Rattle.answers.specs.Kept.{past_laws}
use Rattle.answers.proofs.clear_past.Goals as goal

pub returns : goal.returns
returns c = search (past_laws, rules)

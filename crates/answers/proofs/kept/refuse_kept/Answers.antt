-- Written by tools/proof-answers from proofs.map.
use Rattle.std.proofs.Common.{rules}
use Rattle.answers.specs.Kept.{one_laws}
use Rattle.answers.proofs.kept.refuse_kept.Goals as goal

pub returns : goal.returns
returns c = search (one_laws, rules)

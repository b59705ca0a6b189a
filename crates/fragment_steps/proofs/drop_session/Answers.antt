-- Written by tools/proof-answers from proofs.map.
use Rattle.std.proofs.Common.{rules}
use Rattle.fragments.specs.Counting.Step.{drop_laws}
use Rattle.fragment_steps.proofs.drop_session.Goals as goal

pub returns-in-Some : goal.returns-in-Some
returns-in-Some c = search (drop_laws, rules)

pub returns-in-None : goal.returns-in-None
returns-in-None c = search (drop_laws, rules)

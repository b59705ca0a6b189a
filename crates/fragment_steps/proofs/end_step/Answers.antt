-- Written by tools/proof-answers from proofs.map.
use Rattle.std.proofs.Common.{rules}
use Rattle.fragments.specs.Counting.Step.{end_laws}
use Rattle.fragment_steps.proofs.end_step.Goals as goal

pub returns-in-Ok : goal.returns-in-Ok
returns-in-Ok c = search (end_laws, rules)

pub returns-in-Err : goal.returns-in-Err
returns-in-Err c = search (end_laws, rules)

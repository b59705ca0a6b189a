-- Written by tools/proof-answers from proofs.map.
use Rattle.std.proofs.Common.{rules}
use Rattle.fragments.specs.Counting.Step.{rise_laws}
use Rattle.fragment_steps.proofs.count_rise.Goals as goal

pub returns : goal.returns
returns c = search (rise_laws, rules)

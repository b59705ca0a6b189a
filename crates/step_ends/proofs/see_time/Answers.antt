-- Written by tools/proof-answers from proofs.map.
use Rattle.std.proofs.Common.{rules}
use Rattle.step_ends.specs.Steps.Code.{time_laws}
use Rattle.step_ends.proofs.see_time.Goals as goal

pub returns-then-watch : goal.returns-then-watch
returns-then-watch c = search (time_laws, rules)

pub returns : goal.returns
returns c = search (time_laws, rules)

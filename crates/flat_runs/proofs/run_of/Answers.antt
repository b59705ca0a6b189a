-- Written by tools/proof-answers from proofs.map.
use Rattle.std.proofs.Common.{rules}
use Rattle.flat_runs.specs.Runs.{run_laws}
use Rattle.flat_runs.proofs.run_of.Goals as goal

pub returns : goal.returns
returns c = search (run_laws, rules)

-- `readings::read_step` meets its contract: each need follows from `step_laws`. Assumes nothing.
use Rattle.readings.specs.Step.{step_full, step_laws}
use Rattle.std.proofs.Common.{rules}
use Rattle.readings.proofs.read_step.Goals as goal

pub time_change-requires : goal.time_change-requires
time_change-requires c = search (step_laws, rules)

pub read_values-requires : goal.read_values-requires
read_values-requires c = search (step_laws, rules)

pub returns-in-Some : goal.returns-in-Some
returns-in-Some c = search (step_laws, rules)

pub returns-in-None : goal.returns-in-None
returns-in-None c = step_full c.requires c.time_change.ensures c.in-None.is

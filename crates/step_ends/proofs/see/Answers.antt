-- Written by tools/proof-answers from proofs.map.
use Rattle.std.proofs.Common.{rules}
use Rattle.step_ends.specs.Steps.Code.{see_laws}
use Rattle.slices.specs.Exit.{ok_at}
use Rattle.step_ends.proofs.see.Goals as goal

pub see_event-requires : goal.see_event-requires
see_event-requires c = search (see_laws, rules)

pub returns-in-Ok-Some : goal.returns-in-Ok-Some
returns-in-Ok-Some c = search (see_laws, ok_at, rules)

pub returns-in-Ok-None : goal.returns-in-Ok-None
returns-in-Ok-None c = search (see_laws, ok_at, rules)

pub returns-in-Err : goal.returns-in-Err
returns-in-Err c = search (see_laws, rules)

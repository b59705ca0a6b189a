-- Written by tools/proof-answers from proofs.map.
use Rattle.std.proofs.Common.{rules}
use Rattle.encoder.specs.Rule.Code.{one_laws}
use Rattle.slices.specs.Exit.{ok_at}
use Rattle.encoder.proofs.one.Goals as goal

pub take_event-requires : goal.take_event-requires
take_event-requires c = search (one_laws, rules)

pub returns-in-Ok-None : goal.returns-in-Ok-None
returns-in-Ok-None c = search (one_laws, ok_at, rules)

-- Written by tools/proof-answers from proofs.map.
use Rattle.std.proofs.Common.{rules}
use Rattle.preamble.specs.Preamble.Loop.{one_laws}
use Rattle.slices.specs.Exit.{ok_at}
use Rattle.preamble.proofs.one.Goals as goal

pub returns-in-Ok-Signal : goal.returns-in-Ok-Signal
returns-in-Ok-Signal c = search (one_laws, ok_at, rules)

pub returns-in-Ok-Vector : goal.returns-in-Ok-Vector
returns-in-Ok-Vector c = search (one_laws, ok_at, rules)

pub returns-in-Ok-Sections : goal.returns-in-Ok-Sections
returns-in-Ok-Sections c = search (one_laws, ok_at, rules)

pub returns-in-Err : goal.returns-in-Err
returns-in-Err c = search (one_laws, rules)

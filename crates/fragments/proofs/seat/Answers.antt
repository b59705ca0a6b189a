-- Written by tools/proof-answers from proofs.map.
use Rattle.std.proofs.Common.{rules}
use Rattle.fragments.specs.Counting.Step.{seat_laws}
use Rattle.fragments.proofs.seat.Goals as goal

pub returns-then-k-lt32 : goal.returns-then-k-lt32
returns-then-k-lt32 c = search (seat_laws, rules)

pub returns : goal.returns
returns c = search (seat_laws, rules)

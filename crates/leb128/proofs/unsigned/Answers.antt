-- Written by tools/proof-answers from proofs.map.
use Rattle.std.proofs.Common.{rules}
use Rattle.leb128.specs.Leb128.Code.{unsigned_laws}
use Rattle.slices.specs.Exit.{exit_err}
use Rattle.leb128.proofs.unsigned.Goals as goal

pub returns-then-first-lt128 : goal.returns-then-first-lt128
returns-then-first-lt128 c = search (unsigned_laws, rules)

pub returns-then-second-lt128 : goal.returns-then-second-lt128
returns-then-second-lt128 c = search (unsigned_laws, rules)

pub returns-in_err-sum : goal.returns-in_err-sum
returns-in_err-sum c = let was = c.in_err-sum.was in search (unsigned_laws, exit_err c.from_residual.ensures.1, rules)

pub returns-then-s-tenth : goal.returns-then-s-tenth
returns-then-s-tenth c = search (unsigned_laws, rules)

pub returns-in-Ended : goal.returns-in-Ended
returns-in-Ended c = search (unsigned_laws, rules)

pub returns-then-b-le1 : goal.returns-then-b-le1
returns-then-b-le1 c = search (unsigned_laws, rules)

pub returns-else-b-le1 : goal.returns-else-b-le1
returns-else-b-le1 c = search (unsigned_laws, rules)

-- Written by tools/proof-answers from proofs.map.
use Rattle.std.proofs.Common.{rules}
use Rattle.leb128.specs.Leb128.Code.{signed_laws}
use Rattle.slices.specs.Exit.{exit_err}
use Rattle.leb128.proofs.signed_long.Goals as goal

pub returns-in_err-sum : goal.returns-in_err-sum
returns-in_err-sum c = let was = c.in_err-sum.was in search (signed_laws, exit_err c.from_residual.ensures.1, rules)

pub returns-then-s-tenth : goal.returns-then-s-tenth
returns-then-s-tenth c = search (signed_laws, rules)

pub returns-then-b-eq0 : goal.returns-then-b-eq0
returns-then-b-eq0 c = search (signed_laws, rules)

pub returns-in-Ended : goal.returns-in-Ended
returns-in-Ended c = search (signed_laws, rules)

pub returns-then-b-eq127 : goal.returns-then-b-eq127
returns-then-b-eq127 c = search (signed_laws, rules)

pub returns-else-b-eq127 : goal.returns-else-b-eq127
returns-else-b-eq127 c = search (signed_laws, rules)

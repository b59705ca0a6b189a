-- Written by tools/proof-answers from proofs.map.
use Rattle.std.proofs.Common.{rules}
use Rattle.preamble.specs.Preamble.Code.{item_laws}
use Rattle.preamble.proofs.flag_at.Goals as goal

pub returns-then-flag-le1 : goal.returns-then-flag-le1
returns-then-flag-le1 c = search (item_laws, rules)

pub returns : goal.returns
returns c = search (item_laws, rules)

-- Written by tools/proof-answers from proofs.map.
use Rattle.std.proofs.Common.{rules}
use Rattle.doorquill.specs.Lent.Laws.{check_laws}
use Rattle.doorquill.proofs.lent.check_flat.Goals as goal

pub returns-then-refs-kinds : goal.returns-then-refs-kinds
returns-then-refs-kinds c = search (check_laws, rules)

pub returns-then-v-le16383 : goal.returns-then-v-le16383
returns-then-v-le16383 c = search (check_laws, rules)

pub returns-then-within_limit : goal.returns-then-within_limit
returns-then-within_limit c = search (check_laws, rules)

pub returns : goal.returns
returns c = search (check_laws, rules)

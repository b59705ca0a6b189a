-- Written by tools/proof-answers from proofs.map.
use Rattle.std.proofs.Common.{rules}
use Rattle.doorquill.specs.Lent.Laws.{room_laws}
use Rattle.doorquill.proofs.lent.room_for.Goals as goal

pub returns-then-v-flat : goal.returns-then-v-flat
returns-then-v-flat c = search (room_laws, rules)

pub returns-else-v-flat : goal.returns-else-v-flat
returns-else-v-flat c = search (room_laws, rules)

pub returns-else-v-le16383 : goal.returns-else-v-le16383
returns-else-v-le16383 c = search (room_laws, rules)

-- Written by tools/proof-answers from proofs.map.
use Rattle.std.proofs.Common.{rules}
use Rattle.plain_writes.specs.Plain.Code.{put_laws}
use Rattle.plain_writes.proofs.put_plain.Goals as goal

pub put_u64-requires : goal.put_u64-requires
put_u64-requires c = search (put_laws, rules)

pub returns-then-kind-eq5 : goal.returns-then-kind-eq5
returns-then-kind-eq5 c = search (put_laws, rules)

pub bounds-values-at : goal.bounds-values-at
bounds-values-at c = search (put_laws, rules)

pub returns : goal.returns
returns c = search (put_laws, rules)

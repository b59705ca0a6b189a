-- Written by tools/proof-answers from proofs.map.
use Rattle.std.proofs.Common.{rules}
use Rattle.leb128.specs.Leb128.Code.{nine_laws}
use Rattle.leb128.proofs.nine.Goals as goal

pub loop-k-init : goal.loop-k-init
loop-k-init c = search (nine_laws, rules)

pub returns-then-s-i : goal.returns-then-s-i
returns-then-s-i c = search (nine_laws, rules)

pub overflow_mul-sum : goal.overflow_mul-sum
overflow_mul-sum c = search (nine_laws, rules)

pub overflow_add-sum : goal.overflow_add-sum
overflow_add-sum c = search (nine_laws, rules)

pub overflow_mul-power : goal.overflow_mul-power
overflow_mul-power c = search (nine_laws, rules)

pub returns-then-b-lt128 : goal.returns-then-b-lt128
returns-then-b-lt128 c = search (nine_laws, rules)

pub loop-k-preserved : goal.loop-k-preserved
loop-k-preserved c = search (nine_laws, rules)

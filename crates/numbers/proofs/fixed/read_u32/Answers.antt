-- Written by tools/proof-answers from proofs.map.
use Rattle.std.proofs.Common.{rules}
use Rattle.numbers.specs.Fixed.Code.{fixed_laws}
use Rattle.numbers.proofs.fixed.read_u32.Goals as goal

pub returns-then-v-lt2147483648 : goal.returns-then-v-lt2147483648
returns-then-v-lt2147483648 c = search (fixed_laws, rules)

pub returns-else-v-lt2147483648 : goal.returns-else-v-lt2147483648
returns-else-v-lt2147483648 c = search (fixed_laws, rules)

use Rattle.std.proofs.Common.{rules}
use Rattle.step_ends.specs.Steps.Code.{spell_laws}
use Rattle.step_ends.proofs.value_of.Goals as goal

pub loop-byte-init : goal.loop-byte-init
loop-byte-init c = search (spell_laws, rules)

pub overflow_mul-value : goal.overflow_mul-value
overflow_mul-value c = search (spell_laws, rules)

pub overflow_add-value : goal.overflow_add-value
overflow_add-value c = search (spell_laws, rules)

pub loop-byte-preserved : goal.loop-byte-preserved
loop-byte-preserved c = search (spell_laws, rules)

pub returns : goal.returns
returns c = search (spell_laws, rules)

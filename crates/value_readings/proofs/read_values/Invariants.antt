use Rattle.value_readings.specs.Values.Code.{OnValues}
use Rattle.section_heads.specs.Heads.{standing}
use Rattle.gather.specs.Memory.{mem_of}
use Rattle.item_turns.specs.Lent.{tables}
use Rattle.value_readings.specs.Values.{to_value}
use Rattle.std.proofs.Common.{◌-◌, length}
use Rattle.value_readings.proofs.read_values.Given as goal

abbrev pub invariant-loop-at : goal.invariant-loop-at
invariant-loop-at l = OnValues (tables l.b l.n) l.how l.s l.phase l.time l.initial.at (mem_of l.initial.room l.initial.list l.initial.events l.initial.values) l.initial.g (mem_of l.room l.list l.events l.values) l.g l.id l.at

abbrev pub decreases-loop-at : goal.decreases-loop-at
decreases-loop-at l = to_value (tables l.b l.n) l.how l.s (mem_of l.room l.list l.events l.values) l.g (standing l.phase l.id l.time) l.at

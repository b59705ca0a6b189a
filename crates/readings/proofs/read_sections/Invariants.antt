use Rattle.gather.specs.Memory.{mem_of}
use Rattle.sections.specs.Item.Scans.{to_read}
use Rattle.item_turns.specs.Lent.{tables}
use Rattle.readings.specs.Whole.{OnSections}
use Rattle.std.proofs.Common.{◌-◌, length}
use Rattle.readings.proofs.read_sections.Given as goal

abbrev pub invariant-sections : goal.invariant-sections
invariant-sections l = OnSections (tables l.b l.n) l.how l.s (mem_of l.initial.room l.initial.list l.initial.events l.initial.values) l.initial.g (mem_of l.room l.list l.events l.values) l.g l.x l.at

abbrev pub decreases-sections : goal.decreases-sections
decreases-sections l = to_read l.s l.x l.at

use Rattle.change_readings.specs.Records.Code.{OnRecords}
use Rattle.change_readings.specs.Records.{to_record}
use Rattle.gather.specs.Memory.{mem_of}
use Rattle.item_turns.specs.Lent.{tables}
use Rattle.std.proofs.Common.{◌-◌, length}
use Rattle.change_readings.proofs.read_changes.Given as goal

abbrev pub invariant-loop-inside : goal.invariant-loop-inside
invariant-loop-inside l = OnRecords (tables l.b l.n) l.s (mem_of l.initial.room l.initial.list l.initial.events l.initial.values) l.initial.g (mem_of l.room l.list l.events l.values) l.g l.inside l.at

abbrev pub decreases-loop-inside : goal.decreases-loop-inside
decreases-loop-inside l = to_record (tables l.b l.n) l.s (mem_of l.room l.list l.events l.values) l.g l.inside l.at

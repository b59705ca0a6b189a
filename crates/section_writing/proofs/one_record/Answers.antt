-- Written by tools/proof-answers from proofs.map.
use Rattle.std.proofs.Common.{rules}
use Rattle.sections_writer.specs.Writer.Loop.{record_laws}
use Rattle.slices.specs.Exit.{ok_at}
use Rattle.section_writing.proofs.one_record.Goals as goal

pub one_time-requires : goal.one_time-requires
one_time-requires c = search (record_laws, rules)

pub signal_kind-requires : goal.signal_kind-requires
signal_kind-requires c = search (record_laws, rules)

pub one_write-requires : goal.one_write-requires
one_write-requires c = search (record_laws, rules)

pub returns-in-Ok-Time : goal.returns-in-Ok-Time
returns-in-Ok-Time c = search (record_laws, ok_at, rules)

pub returns-in-Ok-Write : goal.returns-in-Ok-Write
returns-in-Ok-Write c = search (record_laws, ok_at, rules)

pub returns-in-Ok-StepEnd : goal.returns-in-Ok-StepEnd
returns-in-Ok-StepEnd c = search (record_laws, ok_at, rules)

pub returns-in-Ok-End : goal.returns-in-Ok-End
returns-in-Ok-End c = search (record_laws, ok_at, rules)

pub returns-in-Err : goal.returns-in-Err
returns-in-Err c = search (record_laws, rules)

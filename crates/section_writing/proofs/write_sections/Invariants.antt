-- Written by tools/proof-answers from proofs.map.
use Rattle.std.proofs.Common.{◌-◌, length}
use Rattle.sections_writer.specs.Writer.Loop.{OnKinds}
use Rattle.section_writing.proofs.write_sections.Given as goal

abbrev pub invariant-loop-q : goal.invariant-loop-q
invariant-loop-q l = OnKinds l.kinds l.big_endian l.s l.initial.out l.p l.out

abbrev pub decreases-loop-q : goal.decreases-loop-q
decreases-loop-q l = length l.s - l.p.read

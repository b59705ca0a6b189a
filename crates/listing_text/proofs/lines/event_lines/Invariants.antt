-- Written by tools/proof-answers from proofs.map.
use Rattle.std.proofs.Common.{◌-◌, length}
use Rattle.listing_text.specs.Lines.Code.{On}
use Rattle.listing_text.proofs.lines.event_lines.Given as goal

abbrev pub invariant-loop-next : goal.invariant-loop-next
invariant-loop-next l = On l.events l.values l.initial.text l.at l.p l.text

abbrev pub decreases-loop-next : goal.decreases-loop-next
decreases-loop-next l = length l.events - l.p.read

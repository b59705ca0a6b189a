use Rattle.plain_text.specs.Text.Laws.{Spelt}
use Rattle.plain_text.proofs.put_hex.Given as goal

abbrev pub invariant-loop-byte : goal.invariant-loop-byte
invariant-loop-byte l = Spelt l.bytes l.initial.text l.at l.byte-index l.text l.end

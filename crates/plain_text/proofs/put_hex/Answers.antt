use Rattle.std.proofs.Common.{rules}
use Rattle.plain_text.specs.Text.Laws.{hex_laws}
use Rattle.plain_text.proofs.put_hex.Goals as goal

pub loop-byte-preserved : goal.loop-byte-preserved
loop-byte-preserved c = search (hex_laws, rules)

pub returns : goal.returns
returns c = search (hex_laws, rules)

use Rattle.std.proofs.Common.{rules}
use Rattle.number_writer.specs.Code.{encode_laws}
use Rattle.number_writer.proofs.encode.Goals as goal

pub loop-i-init : goal.loop-i-init
loop-i-init c = search (encode_laws, rules)

pub returns-then-fits : goal.returns-then-fits
returns-then-fits c = search (encode_laws, rules)

pub loop-i-preserved : goal.loop-i-preserved
loop-i-preserved c = search (encode_laws, rules)

pub returns : goal.returns
returns c = search (encode_laws, rules)

-- Written by tools/proof-answers from proofs.map.
use Rattle.std.proofs.Common.{rules}
use Rattle.fragment_records.specs.Output.Code.{hold_laws}
use Rattle.fragment_counting.proofs.put_held.Goals as goal

pub loop-k-init : goal.loop-k-init
loop-k-init c = search (hold_laws, rules)

pub loop-k-preserved : goal.loop-k-preserved
loop-k-preserved c = search (hold_laws, rules)

pub returns-in-None : goal.returns-in-None
returns-in-None c = search (hold_laws, rules)

pub returns : goal.returns
returns c = search (hold_laws, rules)

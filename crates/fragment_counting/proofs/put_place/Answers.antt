-- Written by tools/proof-answers from proofs.map.
use Rattle.std.proofs.Common.{rules}
use Rattle.fragment_records.specs.Output.Code.{held_place_laws}
use Rattle.fragment_counting.proofs.put_place.Goals as goal

pub returns-then-bench-k-eq0 : goal.returns-then-bench-k-eq0
returns-then-bench-k-eq0 c = search (held_place_laws, rules)

pub returns : goal.returns
returns c = search (held_place_laws, rules)

-- Written by tools/proof-answers from proofs.map.
use Rattle.std.proofs.Common.{rules}
use Rattle.fragment_records.specs.Output.Code.{built_laws}
use Rattle.fragment_records.proofs.held_bytes.Goals as goal

pub returns : goal.returns
returns c = search (built_laws, rules)

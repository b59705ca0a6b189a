-- Written by tools/proof-answers from proofs.map.
use Rattle.std.proofs.Common.{rules}
use Rattle.read_back.specs.ReadBack.Turn.{id_laws}
use Rattle.read_back.proofs.put_id.Goals as goal

pub returns : goal.returns
returns c = search (id_laws, rules)

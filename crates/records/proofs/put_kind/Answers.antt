-- Written by tools/proof-answers from proofs.map.
use Rattle.std.proofs.Common.{rules}
use Rattle.records.specs.Event.Code.{put_laws}
use Rattle.records.proofs.put_kind.Goals as goal

pub returns : goal.returns
returns c = search (put_laws, rules)

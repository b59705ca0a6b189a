-- Written by tools/proof-answers from proofs.map.
use Rattle.std.proofs.Common.{rules}
use Rattle.sections.specs.Item.Code.{kind_laws}
use Rattle.sections.proofs.signal_kind.Goals as goal

pub returns : goal.returns
returns c = search (kind_laws, rules)

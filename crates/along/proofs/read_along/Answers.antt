-- Written by tools/proof-answers from proofs.map.
use Rattle.std.proofs.Common.{rules}
use Rattle.along.specs.Follows.Code.{along_laws}
use Rattle.along.proofs.read_along.Goals as goal

pub returns-then-not-near : goal.returns-then-not-near
returns-then-not-near c = search (along_laws, rules)

pub returns-then-not-is_quiet : goal.returns-then-not-is_quiet
returns-then-not-is_quiet c = search (along_laws, rules)

pub follow_kind-requires : goal.follow_kind-requires
follow_kind-requires c = search (along_laws, rules)

pub returns : goal.returns
returns c = search (along_laws, rules)

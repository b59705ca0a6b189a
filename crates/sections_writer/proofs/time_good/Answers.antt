-- Written by tools/proof-answers from proofs.map.
use Rattle.std.proofs.Common.{rules}
use Rattle.sections_writer.specs.Writer.Turn.{good_laws}
use Rattle.sections_writer.proofs.time_good.Goals as goal

pub returns-then-pen-eq0 : goal.returns-then-pen-eq0
returns-then-pen-eq0 c = search (good_laws, rules)

pub returns-then-u-pen : goal.returns-then-u-pen
returns-then-u-pen c = search (good_laws, rules)

pub returns : goal.returns
returns c = search (good_laws, rules)

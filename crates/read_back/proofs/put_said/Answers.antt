-- Written by tools/proof-answers from proofs.map.
use Rattle.std.proofs.Common.{rules}
use Rattle.read_back.proofs.Arms.{put_laws}
use Rattle.read_back.proofs.put_said.Goals as goal

pub returns-in-Time : goal.returns-in-Time
returns-in-Time c = search (put_laws, rules)

pub returns-in-Write : goal.returns-in-Write
returns-in-Write c = search (put_laws, rules)

pub returns-in-StepEnd : goal.returns-in-StepEnd
returns-in-StepEnd c = search (put_laws, rules)

pub returns-in_default : goal.returns-in_default
returns-in_default c = search (put_laws, rules)

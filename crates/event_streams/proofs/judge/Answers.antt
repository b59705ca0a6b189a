-- Written by tools/proof-answers from proofs.map.
use Rattle.std.proofs.Common.{rules}
use Rattle.event_streams.proofs.Stream.Code.{judge_laws}
use Rattle.event_streams.proofs.judge.Goals as goal

pub returns-then-in_values : goal.returns-then-in_values
returns-then-in_values c = search (judge_laws, rules)

pub returns-then-may_stand : goal.returns-then-may_stand
returns-then-may_stand c = search (judge_laws, rules)

pub returns : goal.returns
returns c = search (judge_laws, rules)

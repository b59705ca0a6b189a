-- Written by tools/proof-answers from proofs.map.
use Rattle.std.proofs.Common.{rules}
use Rattle.entries.specs.Kept.{rule_laws}
use Rattle.doorquill.proofs.doorquill_time_rule.Goals as goal

pub returns-then-within_limits : goal.returns-then-within_limits
returns-then-within_limits c = search (rule_laws, rules)

pub returns : goal.returns
returns c = search (rule_laws, rules)

-- Written by tools/proof-answers from proofs.map.
use Rattle.std.proofs.Common.{rules}
use Rattle.fragments.specs.Counting.Step.{close_laws}
use Rattle.fragment_steps.proofs.close_session.Goals as goal

pub returns-then-watch-ne1 : goal.returns-then-watch-ne1
returns-then-watch-ne1 c = search (close_laws, rules)

pub returns-then-k-lt32 : goal.returns-then-k-lt32
returns-then-k-lt32 c = search (close_laws, rules)

pub returns : goal.returns
returns c = search (close_laws, rules)

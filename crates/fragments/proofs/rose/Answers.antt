-- Written by tools/proof-answers from proofs.map.
use Rattle.std.proofs.Common.{rules}
use Rattle.fragments.specs.Counting.Step.{rose_laws}
use Rattle.fragments.proofs.rose.Goals as goal

pub returns-then-before-eq0 : goal.returns-then-before-eq0
returns-then-before-eq0 c = search (rose_laws, rules)

pub returns : goal.returns
returns c = search (rose_laws, rules)

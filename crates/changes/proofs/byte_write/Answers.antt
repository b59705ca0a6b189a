-- Written by tools/proof-answers from proofs.map.
use Rattle.std.proofs.Common.{rules}
use Rattle.changes.specs.Changes.Record.{written_laws}
use Rattle.slices.specs.Exit.{exit_err}
use Rattle.changes.proofs.byte_write.Goals as goal

pub returns-then-kind-gt4 : goal.returns-then-kind-gt4
returns-then-kind-gt4 c = search (written_laws, rules)

pub returns-in_err-value : goal.returns-in_err-value
returns-in_err-value c = let was = c.in_err-value.was in search (written_laws, exit_err c.from_residual.ensures.1, rules)

pub returns : goal.returns
returns c = let was = c.in_ok-value.was in search (written_laws, rules)

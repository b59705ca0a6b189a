-- Written by tools/proof-answers from proofs.map.
use Rattle.std.proofs.Common.{rules}
use Rattle.plain_text.specs.Text.Laws.{put_laws}
use Rattle.plain_text.proofs.put.Goals as goal

pub returns-then-text-at : goal.returns-then-text-at
returns-then-text-at c = search (put_laws, rules)

pub returns : goal.returns
returns c = search (put_laws, rules)

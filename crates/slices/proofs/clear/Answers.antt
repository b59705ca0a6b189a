use Rattle.std.proofs.Common.{rules}
use Rattle.slices.specs.Splice.Writes.{clear_laws}
use Rattle.slices.proofs.clear.Goals as goal

pub loop-x-preserved : goal.loop-x-preserved
loop-x-preserved g c = search (clear_laws, rules)

pub returns : goal.returns
returns g c = search (clear_laws, rules)

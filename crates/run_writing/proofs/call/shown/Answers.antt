-- `run_writing::call::shown` is safe: the part is as long as asked. Assumes nothing.
use lib.Seq.{length-take-le}
use Rattle.std.proofs.Common.{rules}
use Rattle.run_writing.proofs.call.shown.Goals as goal

pub slice_bounds-part-end-2 : goal.slice_bounds-part-end-2
slice_bounds-part-end-2 c = search (length-take-le, rules)

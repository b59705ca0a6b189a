-- `run_bench::case::within` is safe: the part is as long as asked. Assumes nothing.
use lib.Seq.{length-take-le}
use Rattle.std.proofs.Common.{rules}
use Rattle.run_bench.proofs.case.within.Goals as goal

pub slice_bounds-shown-end-2 : goal.slice_bounds-shown-end-2
slice_bounds-shown-end-2 c = search (length-take-le, rules)

-- `run_replay::fill` is safe: the part is as long as asked. Assumes nothing.
use lib.Seq.{length-take-le}
use Rattle.std.proofs.Common.{rules}
use Rattle.run_replay.proofs.fill.Goals as goal

pub slice_bounds-read_full-end-2 : goal.slice_bounds-read_full-end-2
slice_bounds-read_full-end-2 c = search (length-take-le, rules)

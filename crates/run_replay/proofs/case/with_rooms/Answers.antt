-- `run_replay::case::with_rooms` is safe: the parts are as long as asked. Assumes nothing.
use lib.Seq.{length-take-le}
use Rattle.std.proofs.Common.{rules}
use Rattle.run_replay.proofs.case.with_rooms.Goals as goal

pub slice_bounds-held-end-2 : goal.slice_bounds-held-end-2
slice_bounds-held-end-2 c = search (length-take-le, rules)

pub slice_bounds-held-end-4 : goal.slice_bounds-held-end-4
slice_bounds-held-end-4 c = search (length-take-le, rules)

pub slice_bounds-held-end-6 : goal.slice_bounds-held-end-6
slice_bounds-held-end-6 c = search (length-take-le, rules)

pub slice_bounds-held-end-8 : goal.slice_bounds-held-end-8
slice_bounds-held-end-8 c = search (length-take-le, rules)

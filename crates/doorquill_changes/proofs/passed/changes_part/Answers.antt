-- What was lent to the reader is the beginning's, and what comes back is the end's.
use Rattle.entries.specs.Begin.{start_shapes, start_long, lend_bytes, lend_numbers, lent_bytes, lent_numbers, start_asks, run_ended}
use Rattle.doorquill_changes.proofs.passed.changes_part.Goals as goal

pub start-requires : goal.start-requires
start-requires c = (start_shapes _ _ _ _ _ _ c.requires.0, start_long _ _ _ _ _ _ c.requires.0)

pub slice_bounds-read_changes-end : goal.slice_bounds-read_changes-end
slice_bounds-read_changes-end c = lend_bytes _ _ _ _ _ _ c.requires.0 c.start.ensures.0 c.start.ensures.1 c.requires.1

pub slice_bounds-read_changes-end-2 : goal.slice_bounds-read_changes-end-2
slice_bounds-read_changes-end-2 c = lent_bytes _ _ _ _ _ _ c.requires.0 c.start.ensures.0 c.start.ensures.1 c.requires.1

pub slice_bounds-read_changes-end-3 : goal.slice_bounds-read_changes-end-3
slice_bounds-read_changes-end-3 c = lend_numbers _ _ _ _ _ _ c.requires.0 c.start.ensures.0 c.start.ensures.1 c.requires.1

pub slice_bounds-read_changes-end-4 : goal.slice_bounds-read_changes-end-4
slice_bounds-read_changes-end-4 c = lent_numbers _ _ _ _ _ _ c.requires.0 c.start.ensures.0 c.start.ensures.1 c.requires.1

pub read_changes-requires : goal.read_changes-requires
read_changes-requires c = start_asks _ _ _ _ _ _ c.requires.0 c.start.ensures.0 c.start.ensures.1 c.requires.1

pub returns : goal.returns
returns c =
    run_ended _ _ _ _ _ _ c.requires.0 c.start.ensures.0 c.start.ensures.1 c.requires.1 c.read_changes.ensures
    c.read_changes.auto.room c.read_changes.auto.list

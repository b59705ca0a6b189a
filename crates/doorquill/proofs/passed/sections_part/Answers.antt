-- What was lent to the reader is the beginning's, and what comes back is the end's.
use Rattle.entries.specs.Begin.{start_shapes, start_long, lend_bytes, lend_numbers, lent_bytes, lent_numbers, start_asks, run_ended}
use Rattle.doorquill.proofs.passed.sections_part.Goals as goal

pub start-requires : goal.start-requires
start-requires c = (start_shapes _ _ _ _ _ _ c.requires.0, start_long _ _ _ _ _ _ c.requires.0)

pub slice_bounds-read_sections-end : goal.slice_bounds-read_sections-end
slice_bounds-read_sections-end c = lend_bytes _ _ _ _ _ _ c.requires.0 c.start.ensures.0 c.start.ensures.1 c.requires.1

pub slice_bounds-read_sections-end-2 : goal.slice_bounds-read_sections-end-2
slice_bounds-read_sections-end-2 c = lent_bytes _ _ _ _ _ _ c.requires.0 c.start.ensures.0 c.start.ensures.1 c.requires.1

pub slice_bounds-read_sections-end-3 : goal.slice_bounds-read_sections-end-3
slice_bounds-read_sections-end-3 c = lend_numbers _ _ _ _ _ _ c.requires.0 c.start.ensures.0 c.start.ensures.1 c.requires.1

pub slice_bounds-read_sections-end-4 : goal.slice_bounds-read_sections-end-4
slice_bounds-read_sections-end-4 c = lent_numbers _ _ _ _ _ _ c.requires.0 c.start.ensures.0 c.start.ensures.1 c.requires.1

pub read_sections-requires : goal.read_sections-requires
read_sections-requires c = start_asks _ _ _ _ _ _ c.requires.0 c.start.ensures.0 c.start.ensures.1 c.requires.1

pub returns : goal.returns
returns c =
    run_ended _ _ _ _ _ _ c.requires.0 c.start.ensures.0 c.start.ensures.1 c.requires.1 c.read_sections.ensures
    c.read_sections.auto.room c.read_sections.auto.list

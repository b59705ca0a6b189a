-- Written by tools/proof-answers from proofs.map.
use Rattle.std.proofs.Common.{rules}
use Rattle.vecmarks.proofs.Full.Laws.{test_laws}
use Rattle.full_marks.proofs.full_in.Goals as goal

pub returns-then-over-eq0 : goal.returns-then-over-eq0
returns-then-over-eq0 c = search (test_laws, rules)

pub slice_bounds-all_full_by_last-count : goal.slice_bounds-all_full_by_last-count
slice_bounds-all_full_by_last-count c = search (test_laws, rules)

pub slice_bounds-all_full_by_last-start : goal.slice_bounds-all_full_by_last-start
slice_bounds-all_full_by_last-start c = search (test_laws, rules)

pub bounds-marks-0 : goal.bounds-marks-0
bounds-marks-0 c = search (test_laws, rules)

pub returns-then-all_full_by_last : goal.returns-then-all_full_by_last
returns-then-all_full_by_last c = search (test_laws, rules)

pub returns-else-all_full_by_last : goal.returns-else-all_full_by_last
returns-else-all_full_by_last c = search (test_laws, rules)

-- `bench::doorquill_bench` meets its contract: each need follows from `bench_laws`, `filled_laws`. Assumes nothing.
use Rattle.answers.specs.Filled.{filled_laws}
use Rattle.bench.specs.Bench.Laws.{bench_laws}
use Rattle.std.proofs.Common.{rules}
use Rattle.bench.proofs.doorquill_bench.Goals as goal

pub within_limits-requires : goal.within_limits-requires
within_limits-requires c = search (bench_laws, filled_laws, rules)

pub apart-requires : goal.apart-requires
apart-requires c = search (bench_laws, filled_laws, rules)

pub count_fragments-w-requires : goal.count_fragments-w-requires
count_fragments-w-requires c = search (bench_laws, filled_laws, rules)

pub end_filled-requires : goal.end_filled-requires
end_filled-requires c = search (bench_laws, filled_laws, rules)

pub returns-then-apart : goal.returns-then-apart
returns-then-apart c = search (bench_laws, filled_laws, rules)

pub refuse_kept-requires : goal.refuse_kept-requires
refuse_kept-requires c = search (bench_laws, filled_laws, rules)

pub returns-then-within_limits : goal.returns-then-within_limits
returns-then-within_limits c = search (bench_laws, filled_laws, rules)

pub refuse_kept-requires-2 : goal.refuse_kept-requires-2
refuse_kept-requires-2 c = search (bench_laws, filled_laws, rules)

pub returns : goal.returns
returns c = search (bench_laws, filled_laws, rules)

-- `fragment_counting::one` meets its contract: each need follows from `one_laws`; that one more fits each count, from the input's length. Assumes nothing.
use Rattle.fragments.specs.Counting.Turn.{goes_asks, one_laws}
use native.Mathlib.Omega.{arith}
use Rattle.std.proofs.Common.{rules}
use Rattle.slices.specs.Exit.{ok_at}
use Rattle.fragment_counting.proofs.one.Goals as goal

pub see-requires : goal.see-requires
see-requires c = search (one_laws, rules)

pub returns-in-Ok-More : goal.returns-in-Ok-More
returns-in-Ok-More c = search (one_laws, ok_at, rules)

pub returns-in-Ok-Step : goal.returns-in-Ok-Step
returns-in-Ok-Step c = search (one_laws, ok_at, rules)

pub returns-in-Ok-End : goal.returns-in-Ok-End
returns-in-Ok-End c = search (one_laws, ok_at, rules)

pub returns-in-Err : goal.returns-in-Err
returns-in-Err c = search (one_laws, rules)

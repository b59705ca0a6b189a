use Rattle.std.proofs.Common.{rules}
use Rattle.slices.specs.Exit.{exit_err}
use Rattle.tables.specs.Checks.{and_then, checks}
use Rattle.checks.specs.Steps.{now_sized, now_ranged, now_named, step_laws}
use Rattle.checks.proofs.checks.Goals as goal

pub returns-in_err-check_limits : goal.returns-in_err-check_limits
unfolding checks and_then
returns-in_err-check_limits c = let was = c.in_err-check_limits.was in search (exit_err c.from_residual.ensures.1, rules)

pub returns-in_err-check_lists : goal.returns-in_err-check_lists
unfolding checks and_then
returns-in_err-check_lists c = let was = c.in_err-check_lists.was in search (exit_err c.from_residual-in_err-check_lists.ensures.1, rules)

pub check_vectors-requires : goal.check_vectors-requires
check_vectors-requires c = let lists = c.in_ok-check_lists.was in search (step_laws, rules)

pub returns-in_err-check_vectors : goal.returns-in_err-check_vectors
unfolding checks and_then
returns-in_err-check_vectors c = let was = c.in_err-check_vectors.was in search (exit_err c.from_residual-in_err-check_vectors.ensures.1, rules)

pub check_signals-requires : goal.check_signals-requires
check_signals-requires c = let lists = c.in_ok-check_lists.was in search (step_laws, rules)

pub returns-in_err-check_signals : goal.returns-in_err-check_signals
unfolding checks and_then
returns-in_err-check_signals c = let was = c.in_err-check_signals.was in search (exit_err c.from_residual-in_err-check_signals.ensures.1, rules)

pub check_names-requires : goal.check_names-requires
check_names-requires c = let lists = c.in_ok-check_lists.was in let vectors = c.in_ok-check_vectors.was in search (step_laws, rules)

pub returns-in_err-check_names : goal.returns-in_err-check_names
unfolding checks and_then
returns-in_err-check_names c = let was = c.in_err-check_names.was in search (exit_err c.from_residual-in_err-check_names.ensures.1, rules)

pub check_room-requires : goal.check_room-requires
check_room-requires c =
    let z = now_sized c.in_ok-check_lists.was c.check_lists.ensures in
    let g = now_ranged c.in_ok-check_vectors.was c.check_vectors.ensures in
    (z, g, now_named c.in_ok-check_names.was c.check_names.ensures z g)

pub returns : goal.returns
unfolding checks and_then
returns c = search rules

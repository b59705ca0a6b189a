-- The pieces of the split are the parts, and there is nothing past the last.
use Rattle.std.proofs.Common.{rules, refl, ◌==◌}
use borrow.Author.Tests.{tests}
use Rattle.std.proofs.lemmas.Iterator.Consumers.{nth_from_yields_List}
use Rattle.std.proofs.lemmas.Iterator.Splits.{YieldsList-from_slice_split}
use Rattle.cases.specs.Cases.Code.{piece_is}
use Rattle.cases.proofs.part.Goals as goal

pub returns : goal.returns
returns c =
    let piece = nth_from_yields_List c.nth.result _ _ c.nth.ensures.ran (YieldsList-from_slice_split _ (λ x. x == c.args.b) c.args.s.now c.split.ensures.rest c.split.ensures.done c.split.ensures.closure (λ x b q k. search (rules, tests))) in
    rw c.unwrap_or.ensures (piece_is c.args.b c.args.k c.args.s.now c.nth.result _ piece refl)

-- A turn takes one part off what is left, and where nothing is left there is no part more.
use Rattle.cases.specs.Cases.Code.{list_short, list_on}
use Rattle.cases.proofs.numbers.Goals as goal

pub returns-then-is_empty : goal.returns-then-is_empty
returns-then-is_empty c = list_short _ _ _ _ _ c.loop-i.invariant c.loop-i-test.true c.is_empty.ensures c.if-is_empty.true

pub loop-i-preserved : goal.loop-i-preserved
loop-i-preserved c =
    list_on _ _ _ _ _ c.loop-i.invariant c.loop-i-test.true c.is_empty.ensures c.if-is_empty.false _ _ c.split_once.ensures.before c.split_once.ensures.after _ c.number.ensures

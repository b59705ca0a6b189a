-- A turn puts the byte of one pair more.
use Rattle.std.proofs.Common.{◌<◌, length, arith}
use Rattle.cases.specs.Cases.Code.{pairs_on}
use Rattle.cases.proofs.unhex.Goals as goal

pub loop-i-preserved : goal.loop-i-preserved
loop-i-preserved c =
    let h : c.loop-i.i < length c.loop-i.out = omega arith in
    pairs_on _ _ _ _ c.loop-i.invariant h _ _ c.digit.ensures.value c.digit-in-loop-i.ensures.value

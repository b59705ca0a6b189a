-- What is flat before a record, and after it.
use Rattle.std.proofs.Common.{◌<◌, get_or, arith}
use Rattle.doorquill.specs.Lent.Flat.{none, placed}
use Rattle.doorquill.proofs.Unpacking.{unpack_none, unpack_more, unpack_all}
use Rattle.doorquill.proofs.lent.unpack.Goals as goal

pub loop-i-init : goal.loop-i-init
loop-i-init c = unpack_none _ _ _

pub loop-i-preserved : goal.loop-i-preserved
unfolding placed
loop-i-preserved c =
    let byte : (get_or c.args.vs.now c.loop-i.i none).state < 256 = omega arith in
    unpack_more c.loop-i.invariant c.loop-i-test.true byte

pub returns : goal.returns
returns c = unpack_all c.loop-i.invariant c.loop-i-test.false

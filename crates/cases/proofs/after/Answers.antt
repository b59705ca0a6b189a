-- Where no byte is found there is nothing past the end.
use Rattle.std.proofs.Math.Nat.{le-max_right}
use Rattle.cases.specs.Cases.Code.{place_none}
use Rattle.cases.proofs.after.Goals as goal

pub returns-in-None-clause-place : goal.returns-in-None-clause-place
returns-in-None-clause-place c =
    place_none c.args.b c.args.at c.args.s.now c.rest.ensures _ c.find.ensures.value c.in-None.is (rw c.max.ensures (le-max_right _ _))

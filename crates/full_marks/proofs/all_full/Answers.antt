use Rattle.std.proofs.Common.{◌≡◌, ◌↔◌, IsTrue, EachIndex, get_or, rules}
use Rattle.vecmarks.proofs.Full.Laws.{full_is}
use Rattle.full_marks.proofs.all_full.Goals as goal

pub returns : goal.returns
returns c =
    let each : IsTrue c.all.result ↔ EachIndex c.args.bytes.now (λ k. get_or c.args.bytes.now k 0 ≡ 255) = search rules in
    full_is _ _ each

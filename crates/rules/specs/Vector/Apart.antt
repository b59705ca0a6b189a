-- Where rule (c) can act: some bit is unmarked.
-- Assumes nothing.
use Rattle.std.specs.Prelude.{◌≡◌, ◌&&◌}
use Rattle.std.proofs.Math.Bool.{Bool, false}
use Rattle.rules.specs.Vector.{Vec, all, act}

-- where rule (c) can act, some bit is unmarked
abbrev pub Incomplete : Bool → Vec → Type 0
Incomplete early v = (early && all v.marks) ≡ false

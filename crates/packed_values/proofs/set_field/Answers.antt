use native.Mathlib.Omega.{arith}
use Rattle.states.specs.Field.Shifts.{set8}
use Rattle.std.proofs.Common.{rules}
use Rattle.packed_values.proofs.set_field.Goals as goal

pub returns : goal.returns
returns c = rw c.requires.2 (set8 _ _ _ _ (omega arith) c.ranges.byte.fits c.requires.3)

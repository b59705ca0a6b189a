use lib.Bits.{and_mask}
use Rattle.states.specs.Field.{field_get}
use Rattle.std.proofs.Common.{rules}
use Rattle.packed_values.proofs.get_field.Goals as goal

pub returns : goal.returns
unfolding field_get
returns c = rw c.requires.1 (and_mask _ c.args.width)

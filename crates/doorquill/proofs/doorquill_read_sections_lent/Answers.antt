-- What is made flat, and section reading from there.
use Rattle.std.proofs.Common.{◌∙◌}
use Rattle.doorquill.specs.Lent.Entry.{fits_room, read_same}
use Rattle.doorquill.proofs.doorquill_read_sections_lent.Goals as goal

pub unpack-requires : goal.unpack-requires
unpack-requires c = fits_room _ _ _ c.room_for-n.ensures

pub returns : goal.returns
returns c =
    c.read_flat.ensures ∙ read_same c.args.vectors.now c.args.kinds.now c.args.refs.now c.args.vecs.now c.args.flat.now c.unpack.new.flat c.args.big_endian c.args.input.now _ c.room_for-n.ensures c.unpack.auto.flat c.unpack.ensures

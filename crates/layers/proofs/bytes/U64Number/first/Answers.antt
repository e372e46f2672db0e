use Rattle.layers.proofs.Endian.{le_8}
use Rattle.layers.proofs.bytes.U64Number.first.Goals as goal

pub returns : goal.returns
returns c = le_8 c.args.b.now c.from_le_bytes.result c.requires c.from_le_bytes.ensures

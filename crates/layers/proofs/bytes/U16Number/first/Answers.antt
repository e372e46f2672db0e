use Rattle.layers.proofs.Endian.{le_2}
use Rattle.layers.proofs.bytes.U16Number.first.Goals as goal

pub returns : goal.returns
returns c = le_2 c.args.b.now c.from_le_bytes.result c.requires c.from_le_bytes.ensures

use Rattle.layers.proofs.Endian.{le_4}
use Rattle.layers.proofs.bytes.U32Number.first.Goals as goal

pub returns : goal.returns
returns c = le_4 c.args.b.now c.from_le_bytes.result c.requires c.from_le_bytes.ensures

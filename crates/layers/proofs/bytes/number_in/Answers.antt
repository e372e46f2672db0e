use Rattle.layers.proofs.Numbers.{number_held}
use Rattle.layers.proofs.bytes.number_in.Goals as goal

pub returns : goal.returns
returns g c = number_held g.T.Number.width c.args.t.now c.args.a _ c.requires c.first.ensures

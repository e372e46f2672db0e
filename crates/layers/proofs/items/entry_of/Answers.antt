use Rattle.layers.specs.Items.{entry_of}
use Rattle.layers.proofs.items.entry_of.Goals as goal

pub returns : goal.returns
unfolding entry_of
returns c = cc

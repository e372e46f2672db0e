use Rattle.layers.specs.Change.{entry_naming}
use Rattle.layers.proofs.change.entry_naming.Goals as goal

pub returns : goal.returns
unfolding entry_naming
returns c = cc

use mathlib.Core.Path.{refl}
use Rattle.merge.specs.Load.{is_loaded}
use Rattle.merge.proofs.load.is_loaded.Goals as goal

pub returns : goal.returns
unfolding is_loaded
returns c = refl

use Rattle.merge.proofs.LoadLaws.{none_there}
use Rattle.merge.proofs.load.has_none.Goals as goal

pub returns : goal.returns
returns c = none_there _ _ _ c.child.result c.is_none.result c.child.ensures c.is_none.ensures

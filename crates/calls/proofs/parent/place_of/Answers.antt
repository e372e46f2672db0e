use Rattle.calls.proofs.ParentLaws.{place_told}
use Rattle.calls.proofs.parent.place_of.Goals as goal

pub returns : goal.returns
returns c = place_told _ _ _ _ c.count.ensures.0 c.unwrap_or.ensures

use Rattle.merge.proofs.PlaceStacks.{named_known}
use Rattle.merge.proofs.stacks.named_known.Goals as goal

pub returns-in-Some : goal.returns-in-Some
returns-in-Some c = named_known _ _ _ _ _ (rw c.in-Some.is at c.requires) c.child_at.ensures

use Rattle.merge.proofs.LoadLaws.{no_places, numbers_decide}
use borrow.Author.Rules.{rules}
use Rattle.merge.proofs.load.has_room.Goals as goal

pub returns-then-room-k : goal.returns-then-room-k
returns-then-room-k c = search (no_places, numbers_decide, rules)

pub returns : goal.returns
returns c = search (no_places, numbers_decide, rules)

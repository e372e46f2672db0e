use Rattle.calls.proofs.RoomLaws.{either_sum}
use borrow.Author.Rules.{rules}
use Rattle.calls.proofs.room.missing_either.Goals as goal

pub returns : goal.returns
returns c = (search (either_sum, rules), search rules)

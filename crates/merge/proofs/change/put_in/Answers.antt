use Rattle.merge.proofs.ChangeLaws.{not_put_in, put_in_at, spot_in, spot_room}
use borrow.Author.Rules.{rules}
use Rattle.merge.proofs.change.put_in.Goals as goal

pub returns-in_default : goal.returns-in_default
returns-in_default c = search (not_put_in, put_in_at, rules)

pub insert-requires : goal.insert-requires
insert-requires c = (search (spot_in, rules), search (spot_room, rules))

pub returns : goal.returns
returns c = search (not_put_in, put_in_at, rules)

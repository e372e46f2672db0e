use Rattle.layers.proofs.RuleOrder.{put_taken, put_free}
use borrow.Author.Rules.{rules}
use Rattle.layers.proofs.distinct.put_place.Goals as goal

pub returns-in_default : goal.returns-in_default
returns-in_default c = search (put_taken, put_free, rules)

pub returns : goal.returns
returns c = search (put_taken, put_free, rules)

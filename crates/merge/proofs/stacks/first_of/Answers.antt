use Rattle.merge.proofs.PushLaws.{marked_first, marked_later}
use borrow.Author.Rules.{rules}
use Rattle.merge.proofs.stacks.first_of.Goals as goal

pub returns-then-s-ne0 : goal.returns-then-s-ne0
returns-then-s-ne0 c = search (marked_first, marked_later, rules)

pub returns : goal.returns
returns c = search (marked_first, marked_later, rules)

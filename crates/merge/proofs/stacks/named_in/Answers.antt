use Rattle.merge.proofs.ClassLaws.{named_none, named_at}
use borrow.Author.Rules.{rules}
use Rattle.merge.proofs.stacks.named_in.Goals as goal

pub returns-in_default : goal.returns-in_default
returns-in_default c = search (named_none, named_at, rules)

pub returns : goal.returns
returns c = search (named_none, named_at, rules)

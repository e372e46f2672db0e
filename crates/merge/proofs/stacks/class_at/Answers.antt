use Rattle.merge.proofs.ClassLaws.{class_is}
use borrow.Author.Rules.{rules}
use Rattle.merge.proofs.stacks.class_at.Goals as goal

pub returns : goal.returns
returns c = search (class_is, rules)

use Rattle.merge.proofs.ClassLaws.{seen_none, seen_there}
use borrow.Author.Rules.{rules}
use Rattle.merge.proofs.stacks.seen_known.Goals as goal

pub returns-then-n-eq0 : goal.returns-then-n-eq0
returns-then-n-eq0 c = search (seen_none, seen_there, rules)

pub returns : goal.returns
returns c = search (seen_none, seen_there, rules)

use Rattle.merge.proofs.ClassLaws.{walked_is, not_walked}
use borrow.Author.Rules.{rules}
use Rattle.merge.proofs.scan.is_walked.Goals as goal

pub returns-in_default : goal.returns-in_default
returns-in_default c = search (not_walked, walked_is, rules)

pub returns : goal.returns
returns c = search (not_walked, walked_is, rules)

use Rattle.merge.proofs.ClassLaws.{ends_is}
use borrow.Author.Rules.{rules}
use Rattle.merge.proofs.scan.ends_scan.Goals as goal

pub returns : goal.returns
returns c = search (ends_is, rules)

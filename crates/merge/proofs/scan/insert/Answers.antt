use Rattle.merge.proofs.ScanLaws.{filled_taken, filled_free}
use borrow.Author.Rules.{rules}
use Rattle.merge.proofs.scan.insert.Goals as goal

pub returns-in_default : goal.returns-in_default
returns-in_default c = search (filled_taken, filled_free, rules)

pub returns : goal.returns
returns c = search (filled_taken, filled_free, rules)

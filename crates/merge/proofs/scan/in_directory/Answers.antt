use Rattle.merge.proofs.ScanLaws.{in_directory_is, in_none}
use borrow.Author.Rules.{rules}
use Rattle.merge.proofs.scan.in_directory.Goals as goal

pub returns-then-p-eq0 : goal.returns-then-p-eq0
returns-then-p-eq0 c = search (in_none, in_directory_is, rules)

pub returns : goal.returns
returns c = search (in_none, in_directory_is, rules)

use Rattle.merge.proofs.ScanLaws.{filled_in, filled_out}
use borrow.Author.Rules.{rules}
use Rattle.merge.proofs.scan.add_place.Goals as goal

pub returns-then-in_directory : goal.returns-then-in_directory
returns-then-in_directory c = search (filled_in, filled_out, rules)

pub returns : goal.returns
returns c = search (filled_in, filled_out, rules)

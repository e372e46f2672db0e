use Rattle.calls.proofs.ImportLaws.{root_put}
use borrow.Author.Rules.{rules}
use Rattle.calls.proofs.import.put_root.Goals as goal

pub returns : goal.returns
returns c = search (root_put, rules)

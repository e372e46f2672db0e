use Rattle.calls.proofs.ImportLaws.{root_made}
use borrow.Author.Rules.{rules}
use Rattle.calls.proofs.import.root_node.Goals as goal

pub returns : goal.returns
returns c = search (root_made, rules)

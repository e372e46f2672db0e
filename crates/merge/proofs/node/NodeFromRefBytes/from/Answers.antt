use Rattle.merge.proofs.NodeLaws.{node_fields, name_copied}
use borrow.Author.Rules.{rules}
use Rattle.merge.proofs.node.NodeFromRefBytes.from.Goals as goal

pub returns : goal.returns
returns c = search (node_fields, name_copied, rules)

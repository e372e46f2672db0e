use Rattle.merge.proofs.StateLaws.{none_lent, nodes_lent, nodes_read}
use borrow.Author.Rules.{rules}
use Rattle.merge.proofs.state.nodes.Goals as goal

pub returns-then-c-eq0 : goal.returns-then-c-eq0
returns-then-c-eq0 c = (search (none_lent, rules), search (nodes_read, none_lent, rules))

pub returns : goal.returns
returns c = (search (nodes_lent, rules), search (nodes_read, nodes_lent, rules))

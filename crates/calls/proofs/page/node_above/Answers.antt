use Rattle.calls.proofs.WholeLaws.{above_root, above_other}
use borrow.Author.Rules.{rules}
use Rattle.calls.proofs.page.node_above.Goals as goal

pub returns-then-x-eq1 : goal.returns-then-x-eq1
returns-then-x-eq1 c = search (above_root, rules)

pub returns : goal.returns
returns c = search (above_other, rules)

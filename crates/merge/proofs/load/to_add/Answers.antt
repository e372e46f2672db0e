use Rattle.merge.proofs.LoadLaws.{to_add_is, to_add_all}
use borrow.Author.Rules.{rules}
use Rattle.merge.proofs.load.to_add.Goals as goal

pub returns-then-has_children : goal.returns-then-has_children
returns-then-has_children c = search (to_add_is, rules)

pub returns : goal.returns
returns c = search (to_add_all, rules)

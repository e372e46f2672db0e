use Rattle.layers.proofs.ItemLaws.{head_laid}
use borrow.Author.Rules.{rules}
use Rattle.layers.proofs.items.lay_head.Goals as goal

pub returns : goal.returns
returns c = (search (head_laid, rules), search rules)

use Rattle.layers.proofs.ItemLaws.{tail_laid}
use borrow.Author.Rules.{rules}
use Rattle.layers.proofs.items.lay_tail.Goals as goal

pub returns : goal.returns
returns c = (search (tail_laid, rules), search rules)

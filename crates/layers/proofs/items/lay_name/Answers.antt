use Rattle.layers.proofs.ItemLaws.{name_laid}
use borrow.Author.Rules.{rules}
use Rattle.layers.proofs.items.lay_name.Goals as goal

pub returns : goal.returns
returns c = (search (name_laid, rules), search rules)

use Rattle.layers.proofs.ItemLaws.{name_copied}
use borrow.Author.Rules.{rules}
use Rattle.layers.proofs.items.name_of.Goals as goal

pub returns : goal.returns
returns c = search (name_copied, rules)

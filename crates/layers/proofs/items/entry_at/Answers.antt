use Rattle.layers.proofs.ItemLaws.{entry_past, entry_here}
use borrow.Author.Rules.{rules}
use Rattle.layers.proofs.items.entry_at.Goals as goal

pub returns-then-j-gt127 : goal.returns-then-j-gt127
returns-then-j-gt127 c = search (entry_past, entry_here, rules)

pub returns : goal.returns
returns c = search (entry_past, entry_here, rules)

use Rattle.layers.proofs.ItemLaws.{past_entry, entry_laid}
use borrow.Author.Rules.{rules}
use Rattle.layers.proofs.items.put_entry.Goals as goal

pub returns-then-j-gt127 : goal.returns-then-j-gt127
returns-then-j-gt127 c = search (past_entry, entry_laid, rules)

pub returns : goal.returns
returns c = search (past_entry, entry_laid, rules)

use Rattle.layers.proofs.ZeroLaws.{entry_zeros, entry_none}
use borrow.Author.Rules.{rules}
use Rattle.layers.proofs.free_places.free_entry_is_good.Goals as goal

pub returns-then-j-gt127 : goal.returns-then-j-gt127
returns-then-j-gt127 c = search (entry_zeros, entry_none, rules)

pub returns : goal.returns
returns c = search (entry_zeros, entry_none, rules)

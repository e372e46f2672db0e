use Rattle.layers.proofs.FreeTail.{entries_free}
use borrow.Author.Rules.{rules}
use Rattle.layers.proofs.free_places.entries_to.Goals as goal

pub returns : goal.returns
returns c = search (entries_free, rules)

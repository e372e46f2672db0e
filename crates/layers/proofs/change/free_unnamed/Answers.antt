use Rattle.layers.proofs.ChangeLaws.{freed, not_freed}
use borrow.Author.Rules.{rules}
use Rattle.layers.proofs.change.free_unnamed.Goals as goal

pub returns-then-naming_entries-eq0 : goal.returns-then-naming_entries-eq0
returns-then-naming_entries-eq0 c = search (freed, not_freed, rules)

pub returns-else-naming_entries-eq0 : goal.returns-else-naming_entries-eq0
returns-else-naming_entries-eq0 c = search (freed, not_freed, rules)

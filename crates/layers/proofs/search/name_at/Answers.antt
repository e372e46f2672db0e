use Rattle.layers.proofs.Places.{no_name, least_name}
use borrow.Author.Rules.{rules}
use Rattle.layers.proofs.search.name_at.Goals as goal

pub returns-then-j-gt127 : goal.returns-then-j-gt127
returns-then-j-gt127 c = search (no_name, rules)

pub returns : goal.returns
returns c = search (least_name, rules)

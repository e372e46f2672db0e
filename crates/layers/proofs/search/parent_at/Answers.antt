use Rattle.layers.proofs.Places.{entry_out, parent_is}
use mathlib.Core.Path.{refl}
use borrow.Author.Rules.{rules}
use Rattle.layers.proofs.search.parent_at.Goals as goal

pub returns-then-j-gt127 : goal.returns-then-j-gt127
returns-then-j-gt127 c = search (entry_out (λ e. e.parent) refl, parent_is, rules)

pub returns : goal.returns
returns c = search (entry_out (λ e. e.parent) refl, parent_is, rules)

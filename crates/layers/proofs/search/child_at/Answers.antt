use Rattle.layers.proofs.Places.{entry_out, child_is}
use mathlib.Core.Path.{refl}
use borrow.Author.Rules.{rules}
use Rattle.layers.proofs.search.child_at.Goals as goal

pub returns-then-j-gt127 : goal.returns-then-j-gt127
returns-then-j-gt127 c = search (entry_out (λ e. e.child) refl, child_is, rules)

pub returns : goal.returns
returns c = search (entry_out (λ e. e.child) refl, child_is, rules)

use Rattle.layers.proofs.ChangeLaws.{dropped, not_dropped}
use borrow.Author.Rules.{rules}
use Rattle.layers.proofs.change.drop_entry.Goals as goal

pub returns-then-parent_at-eq0 : goal.returns-then-parent_at-eq0
returns-then-parent_at-eq0 c = search (dropped, not_dropped, rules)

pub returns : goal.returns
returns c = search (dropped, not_dropped, rules)

use Rattle.layers.specs.Search.{names_record}
use Rattle.layers.proofs.Cases.{cases}
use borrow.Author.Rules.{rules}
use Rattle.layers.proofs.search.names_record.Goals as goal

pub returns-then-parent_at-ne0 : goal.returns-then-parent_at-ne0
unfolding names_record
returns-then-parent_at-ne0 c = search (cases, rules) depth 12

pub returns-else-parent_at-ne0 : goal.returns-else-parent_at-ne0
unfolding names_record
returns-else-parent_at-ne0 c = search (cases, rules) depth 12

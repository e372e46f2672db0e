use Rattle.layers.proofs.ItemLaws.{record_past, record_here}
use borrow.Author.Rules.{rules}
use Rattle.layers.proofs.items.record_at.Goals as goal

pub returns-then-i-eq0 : goal.returns-then-i-eq0
returns-then-i-eq0 c = search (record_past, record_here, rules)

pub returns-then-i-gt128 : goal.returns-then-i-gt128
returns-then-i-gt128 c = search (record_past, record_here, rules)

pub returns : goal.returns
returns c = search (record_past, record_here, rules)

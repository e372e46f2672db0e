use Rattle.calls.proofs.ListCallLaws.{value_remains, value_whole}
use borrow.Author.Rules.{rules}
use Rattle.calls.proofs.listing.page_value.Goals as goal

pub returns-then-p : goal.returns-then-p
returns-then-p c = search (value_remains, rules)

pub returns : goal.returns
returns c = search (value_whole, rules)

use Rattle.calls.proofs.ListCallLaws.{list_start}
use borrow.Author.Rules.{rules}
use Rattle.calls.proofs.listing.listing.Goals as goal

pub returns-then-not-lengths_fit : goal.returns-then-not-lengths_fit
returns-then-not-lengths_fit c = search (list_start, rules)

pub returns-then-size-eq0 : goal.returns-then-size-eq0
returns-then-size-eq0 c = search (list_start, rules)

pub returns : goal.returns
returns c = search (list_start, rules)

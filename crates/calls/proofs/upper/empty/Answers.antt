use Rattle.calls.proofs.UpperLaws.{not_emptied, empties}
use borrow.Author.Rules.{rules}
use Rattle.calls.proofs.upper.empty.Goals as goal

pub returns-in_default : goal.returns-in_default
returns-in_default c = search (not_emptied, rules)

pub returns : goal.returns
returns c = search (empties, rules)

use Rattle.calls.proofs.CountLaws.{weights}
use borrow.Author.Rules.{rules}
use Rattle.calls.proofs.count.weight.Goals as goal

pub returns-then-from-x : goal.returns-then-from-x
returns-then-from-x c = search (weights, rules)

pub returns-then-is_white : goal.returns-then-is_white
returns-then-is_white c = search (weights, rules)

pub returns : goal.returns
returns c = search (weights, rules)

use Rattle.layers.proofs.RuleOrder.{key_before, key_after, key_name}
use borrow.Author.Rules.{rules}
use Rattle.layers.proofs.distinct.compare_places.Goals as goal

pub returns-then-x-y : goal.returns-then-x-y
returns-then-x-y c = search (key_before, key_after, key_name, rules)

pub returns-then-y-x : goal.returns-then-y-x
returns-then-y-x c = search (key_before, key_after, key_name, rules)

pub returns : goal.returns
returns c = search (key_before, key_after, key_name, rules)

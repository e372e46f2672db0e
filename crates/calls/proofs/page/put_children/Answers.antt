use Rattle.calls.proofs.ChildLaws.{next_child, children_walk}
use borrow.Author.Rules.{rules}
use Rattle.calls.proofs.page.put_children.Goals as goal

pub overflow_add-k : goal.overflow_add-k
overflow_add-k c = search (next_child, rules)

pub returns-in_default-put_entry : goal.returns-in_default-put_entry
returns-in_default-put_entry c = search (children_walk, rules)

pub overflow_add-i : goal.overflow_add-i
overflow_add-i c = search (next_child, rules)

pub loop-j-smaller-then-not-is_white : goal.loop-j-smaller-then-not-is_white
loop-j-smaller-then-not-is_white c = search (next_child, rules)

pub loop-j-preserved-then-not-is_white : goal.loop-j-preserved-then-not-is_white
loop-j-preserved-then-not-is_white c = (search (next_child, rules), search (next_child, rules), search rules, search (children_walk, rules))

pub loop-j-smaller : goal.loop-j-smaller
loop-j-smaller c = search (next_child, rules)

pub loop-j-preserved : goal.loop-j-preserved
loop-j-preserved c = (search (next_child, rules), search (next_child, rules), search rules, search (children_walk, rules))

pub returns : goal.returns
returns c = search (children_walk, rules)

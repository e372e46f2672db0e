use Rattle.calls.proofs.WholeLaws.{then_children, whole_walk}
use borrow.Author.Rules.{rules}
use Rattle.calls.proofs.page.put_listing.Goals as goal

pub returns-in_default : goal.returns-in_default
returns-in_default c = search (whole_walk, rules)

pub returns-in_default-put_entry : goal.returns-in_default-put_entry
returns-in_default-put_entry c = search (whole_walk, rules)

pub returns : goal.returns
returns c = then_children _ _ _ _ _ _ _ _ c.node_numbered-n.ensures _ _ c.put_entry.ensures.0 c.put_entry.ensures.1 _ c.in-Some.is _ c.node_above-m.ensures _ _ c.put_entry-2.ensures.0 c.put_entry-2.ensures.1 _ c.in-Some-put_entry.is _ _ c.put_children.ensures

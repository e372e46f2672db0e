use Rattle.calls.proofs.CountLaws.{counts_next, counts_end}
use borrow.Author.Rules.{rules}
use Rattle.calls.proofs.count.child_counts.Goals as goal

pub loop-j-preserved : goal.loop-j-preserved
loop-j-preserved c = search (counts_next, rules)

pub returns : goal.returns
returns c = search (counts_end, rules)

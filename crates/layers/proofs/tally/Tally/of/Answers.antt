use Rattle.layers.proofs.CountTally.{counted_start, counted_before, counted_all, parented_start, parented_before, parented_all}
use borrow.Author.Rules.{rules}
use Rattle.layers.proofs.tally.Tally.of.Goals as goal

pub loop-j-init : goal.loop-j-init
loop-j-init c = search (counted_start, parented_start, rules)

pub add-requires : goal.add-requires
add-requires c = search (counted_before, parented_before, rules)

pub returns : goal.returns
returns c = search (counted_all, parented_all, rules)

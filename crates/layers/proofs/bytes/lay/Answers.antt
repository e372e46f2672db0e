use Rattle.layers.proofs.Numbers.{laid_walk}
use borrow.Author.Rules.{rules}
use Rattle.layers.proofs.bytes.lay.Goals as goal

pub returns-then-t-b : goal.returns-then-t-b
returns-then-t-b c = search (laid_walk, rules)

pub returns-then-t-b-2 : goal.returns-then-t-b-2
returns-then-t-b-2 c = search (laid_walk, rules)

pub returns : goal.returns
returns c = search (laid_walk, rules)

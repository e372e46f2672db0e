use Rattle.layers.proofs.Cases.{cases}
use Rattle.layers.specs.Rules.{named_test}
use borrow.Author.Rules.{rules}
use Rattle.layers.proofs.tally.is_named.Goals as goal

pub returns-then-r-eq0 : goal.returns-then-r-eq0
unfolding named_test
returns-then-r-eq0 c = search (cases, rules) depth 12

pub returns-then-is_directory : goal.returns-then-is_directory
unfolding named_test
returns-then-is_directory c = search (cases, rules) depth 12

pub returns : goal.returns
unfolding named_test
returns c = search (cases, rules) depth 12

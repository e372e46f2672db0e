use Rattle.layers.proofs.Cases.{cases}
use Rattle.layers.specs.Rules.{once_named_test}
use borrow.Author.Rules.{rules}
use Rattle.layers.proofs.tally.is_named_once.Goals as goal

pub returns-then-not-is_directory : goal.returns-then-not-is_directory
unfolding once_named_test
returns-then-not-is_directory c = search (cases, rules) depth 12

pub returns-then-i-eq1 : goal.returns-then-i-eq1
unfolding once_named_test
returns-then-i-eq1 c = search (cases, rules) depth 12

pub returns : goal.returns
unfolding once_named_test
returns c = search (cases, rules) depth 12

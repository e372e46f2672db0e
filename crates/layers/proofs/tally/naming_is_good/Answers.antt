use Rattle.layers.proofs.RuleWalks.{turned}
use Rattle.layers.specs.Rules.{count_test}
use borrow.Author.Rules.{rules}
use Rattle.layers.proofs.tally.naming_is_good.Goals as goal

pub returns-then-not-is_named_once : goal.returns-then-not-is_named_once
unfolding count_test
returns-then-not-is_named_once c = search (turned, rules) depth 12

pub returns : goal.returns
unfolding count_test
returns c = search (turned, rules) depth 12

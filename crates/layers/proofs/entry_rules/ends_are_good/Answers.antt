use Rattle.layers.proofs.RuleWalks.{turned}
use Rattle.layers.proofs.Cases.{cases}
use Rattle.layers.specs.Rules.{ends_test}
use borrow.Author.Rules.{rules}
use Rattle.layers.proofs.entry_rules.ends_are_good.Goals as goal

pub returns-then-e-eq0 : goal.returns-then-e-eq0
unfolding ends_test
returns-then-e-eq0 c = search (cases, turned, rules) depth 12

pub returns-then-not-is_directory : goal.returns-then-not-is_directory
unfolding ends_test
returns-then-not-is_directory c = search (cases, turned, rules) depth 12

pub returns-then-not-child_exists : goal.returns-then-not-child_exists
unfolding ends_test
returns-then-not-child_exists c = search (cases, turned, rules) depth 12

pub returns : goal.returns
unfolding ends_test
returns c = search (cases, turned, rules) depth 12

use Rattle.layers.proofs.RuleWalks.{turned}
use Rattle.layers.proofs.Cases.{cases}
use Rattle.layers.specs.Rules.{valid_test}
use borrow.Author.Rules.{rules}
use Rattle.layers.proofs.rules.valid.Goals as goal

pub returns-in_default : goal.returns-in_default
unfolding valid_test
returns-in_default c = search (cases, turned, rules) depth 14

pub returns-then-not-root_is_good : goal.returns-then-not-root_is_good
unfolding valid_test
returns-then-not-root_is_good c = search (cases, turned, rules) depth 14

pub returns-then-not-entries_are_good : goal.returns-then-not-entries_are_good
unfolding valid_test
returns-then-not-entries_are_good c = search (cases, turned, rules) depth 14

pub returns-then-not-records_hold : goal.returns-then-not-records_hold
unfolding valid_test
returns-then-not-records_hold c = search (cases, turned, rules) depth 14

pub returns : goal.returns
unfolding valid_test
returns c = search (cases, turned, rules) depth 14

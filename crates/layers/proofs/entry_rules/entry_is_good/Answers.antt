use Rattle.layers.proofs.RuleWalks.{compared, name_test_of}
use Rattle.layers.specs.Rules.{entry_test}
use Rattle.layers.proofs.Cases.{cases}
use borrow.Author.Rules.{rules}
use Rattle.layers.proofs.entry_rules.entry_is_good.Goals as goal

pub returns-then-e-eq0 : goal.returns-then-e-eq0
unfolding entry_test
returns-then-e-eq0 c = search (cases, compared, name_test_of, rules) depth 20

pub returns-then-e-ne0 : goal.returns-then-e-ne0
unfolding entry_test
returns-then-e-ne0 c = search (cases, compared, name_test_of, rules) depth 20

pub returns-then-n-lt1 : goal.returns-then-n-lt1
unfolding entry_test
returns-then-n-lt1 c = search (cases, compared, name_test_of, rules) depth 20

pub returns-then-n-gt28 : goal.returns-then-n-gt28
unfolding entry_test
returns-then-n-gt28 c = search (cases, compared, name_test_of, rules) depth 20

pub returns : goal.returns
unfolding entry_test
returns c = search (cases, compared, name_test_of, rules) depth 20

use Rattle.layers.proofs.RuleWalks.{turned}
use Rattle.layers.proofs.Cases.{cases}
use Rattle.layers.specs.Rules.{record_test}
use borrow.Author.Rules.{rules}
use Rattle.layers.proofs.record_rules.record_is_good.Goals as goal

pub returns-then-r-eq0 : goal.returns-then-r-eq0
unfolding record_test
returns-then-r-eq0 c = search (cases, turned, rules) depth 20

pub returns-then-from-i : goal.returns-then-from-i
unfolding record_test
returns-then-from-i c = search (cases, turned, rules) depth 20

pub returns-then-is_err : goal.returns-then-is_err
unfolding record_test
returns-then-is_err c = search (cases, turned, rules) depth 20

pub returns-then-r-gt4095 : goal.returns-then-r-gt4095
unfolding record_test
returns-then-r-gt4095 c = search (cases, turned, rules) depth 20

pub returns : goal.returns
unfolding record_test
returns c = search (cases, turned, rules) depth 20

use Rattle.layers.proofs.Cases.{cases}
use Rattle.layers.proofs.RuleWalks.{turned}
use Rattle.calls.specs.Lengths.{lengths_test}
use borrow.Author.Rules.{rules}
use Rattle.calls.proofs.lengths.lengths_fit.Goals as goal

pub returns-then-upper_fits : goal.returns-then-upper_fits
unfolding lengths_test
returns-then-upper_fits c = search (cases, turned, rules) depth 14

pub returns-else-upper_fits : goal.returns-else-upper_fits
unfolding lengths_test
returns-else-upper_fits c = search (cases, turned, rules) depth 14

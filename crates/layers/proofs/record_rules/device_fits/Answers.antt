use Rattle.layers.specs.Rules.{device_test}
use Rattle.layers.proofs.Cases.{cases}
use borrow.Author.Rules.{rules}
use borrow.Author.Tests.{tests}
use Rattle.layers.proofs.record_rules.device_fits.Goals as goal

pub returns-then-k-from-2 : goal.returns-then-k-from-2
unfolding device_test
returns-then-k-from-2 c = search (cases, tests, rules) depth 14

pub returns-else-k-from-2 : goal.returns-else-k-from-2
unfolding device_test
returns-else-k-from-2 c = search (cases, tests, rules) depth 14

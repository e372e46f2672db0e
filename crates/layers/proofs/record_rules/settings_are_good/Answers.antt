use Rattle.layers.specs.Rules.{settings_test}
use Rattle.layers.proofs.Cases.{cases}
use borrow.Author.Rules.{rules}
use borrow.Author.Tests.{tests}
use Rattle.layers.proofs.record_rules.settings_are_good.Goals as goal

pub returns-then-opaque_fits : goal.returns-then-opaque_fits
unfolding settings_test
returns-then-opaque_fits c = search (cases, tests, rules) depth 20

pub returns-else-opaque_fits : goal.returns-else-opaque_fits
unfolding settings_test
returns-else-opaque_fits c = search (cases, tests, rules) depth 20

use Rattle.layers.specs.Rules.{opaque_test}
use Rattle.layers.proofs.Cases.{cases}
use borrow.Author.Rules.{rules}
use borrow.Author.Tests.{eq-eqb, ne_eqb}
use Rattle.layers.proofs.record_rules.opaque_fits.Goals as goal

pub returns-then-o-eq0 : goal.returns-then-o-eq0
unfolding opaque_test
returns-then-o-eq0 c = search (cases, eq-eqb, ne_eqb, rules) depth 12

pub returns-else-o-eq0 : goal.returns-else-o-eq0
unfolding opaque_test
returns-else-o-eq0 c = search (cases, eq-eqb, ne_eqb, rules) depth 12

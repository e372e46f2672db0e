use Rattle.layers.specs.Rules.{root_test}
use Rattle.layers.proofs.Cases.{cases, eqb_of}
use borrow.Author.Rules.{rules}
use borrow.Author.Tests.{eq-eqb, ne_eqb}
use Rattle.layers.proofs.rules.root_is_good.Goals as goal

pub returns-then-number_at-eq1 : goal.returns-then-number_at-eq1
unfolding root_test
returns-then-number_at-eq1 c = search (cases, eqb_of, rules) depth 12

pub returns-else-number_at-eq1 : goal.returns-else-number_at-eq1
unfolding root_test
returns-else-number_at-eq1 c = search (cases, eq-eqb, ne_eqb, rules) depth 12

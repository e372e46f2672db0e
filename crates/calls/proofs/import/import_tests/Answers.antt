use mathlib.Core.Bool.{true}
use Rattle.calls.proofs.TestLaws.{tests}
use Rattle.calls.proofs.ImportLaws.{broken_so_far, broken_at, none_broken}
use Rattle.calls.specs.Import.{import_tests}
use native.Mathlib.Omega.{arith}
use borrow.Author.Rules.{rules}
use Rattle.calls.proofs.import.import_tests.Goals as goal

pub returns-then-not-lengths_fit : goal.returns-then-not-lengths_fit
unfolding import_tests
returns-then-not-lengths_fit c = search (tests, rules) depth 20

pub returns-then-no_layer : goal.returns-then-no_layer
unfolding import_tests
returns-then-no_layer c = search (tests, rules) depth 20

pub loop-k-init : goal.loop-k-init
loop-k-init c = λ i h. absurd (omega arith)

pub returns-then-is_broken : goal.returns-then-is_broken
returns-then-is_broken c = broken_at _ _ _ _ _ c.is_broken.ensures c.if-is_broken.true c.loop-k-test.true

pub loop-k-preserved : goal.loop-k-preserved
loop-k-preserved c = broken_so_far _ _ _ _ c.loop-k.invariant c.is_broken.ensures c.if-is_broken.false

pub returns : goal.returns
returns c = none_broken c.args.ls.upper.now c.args.ls.lower.now _ true c.args.s.now c.loop-k.invariant c.loop-k-test.false _ c.lengths_fit.ensures c.if-not-lengths_fit.false _ c.no_layer.ensures c.if-no_layer.false
